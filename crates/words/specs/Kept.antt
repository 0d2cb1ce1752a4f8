-- What the code names: how a plan keeps phases, standings and the orders, and the commands that make the orders.
use Rattle.std.specs.Prelude.{ℕ}
use Rattle.format.specs.Command as rules
use Rattle.rules.specs.Phase
use Rattle.books.specs.Standing
use Rattle.words.specs.Layout.{activation_base, execution_base, place}
use Rattle.words.specs.declared.phase.Phase.{Phase}
use Rattle.words.specs.declared.phase.Phase.TheVariants.{Empty, Steps, Orders, Running, Over, Ready}
use Rattle.words.specs.declared.standing.Standing.{Standing}
use Rattle.words.specs.declared.standing.Standing.TheVariants.{Waiting, Activated, Started, Finished}
use Rattle.words.specs.declared.order.Order.{Order}
use Rattle.words.specs.declared.order.Order.TheVariants.{Activation, Execution}

abbrev pub phase_number : Phase → ℕ
phase_number Empty = Phase.empty
phase_number Steps = Phase.steps
phase_number Orders = Phase.orders
phase_number Running = Phase.running
phase_number Over = Phase.over
phase_number Ready = Phase.ready

abbrev pub standing_number : Standing → ℕ
standing_number Waiting = Standing.waiting
standing_number Activated = Standing.activated
standing_number Started = Standing.running
standing_number Finished = Standing.finished

-- the word of the head that counts the entries of an order, where they begin, and the column with each task's place
abbrev pub counted_word : Order → ℕ
counted_word Activation = 4
counted_word Execution = 8

abbrev pub order_base : Order → ℕ
order_base Activation = activation_base
order_base Execution = execution_base

abbrev pub place_column : Order → ℕ
place_column Activation = 1
place_column Execution = place

-- the command by which a task is the next of an order: 03 and 04
abbrev pub next_in : Order → ℕ → rules.Command
next_in Activation task = rules.activation task
next_in Execution task = rules.execution task
