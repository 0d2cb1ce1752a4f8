-- The † table, the table of the grounds, that of other sentences and that of other bounds hold, and plan A prints its five lines: all by
-- computation.
use mathlib.Core.Path.{◌≡◌, refl}
use mathlib.Core.Bool.{true}
use mathlib.Core.List.{[], ◌∷◌, ◌++◌}
use lib.ListN.{take, drop}
use Rattle.numbers.specs.Lists.{every, distinct}
use Rattle.books.specs.Standing.{counts}
use Rattle.format.specs.Command.{begin}
use Rattle.rules.specs.Question.{standing}
use Rattle.peaks.specs.Desk.{desk_ground, desk_answer, column, desk}
use Rattle.texts.specs.Text.{ascii}
use Rattle.texts.specs.Printer.{print}
use Rattle.worked.specs.Marked.{ask, asks, last, started_by, peak_told, in_order, in_orders, tasks_a, plan_a, begun_a, ready_a, over_a, one_order_a, reading, short, told, refusal, grounds, plan_c, day_c, single, marked, records_a, roots_only, records_alike, surveyed, in_room, sentences, lack_told, lack_after, written_after, written_a, cleaned_a, one_processor_a, narrow, bounds, same, holds, day_a}
use Rattle.worked.proofs.Computing.{computing}

-- the single claim over the † table
pub marked-holds : holds marked ≡ true
unfolding computing ask asks last started_by peak_told in_order tasks_a plan_a plan_c day_c single marked same holds
marked-holds = refl

-- each small input of the grounds is refused with its number
pub grounds-hold : holds grounds ≡ true
unfolding computing ask asks in_order in_orders tasks_a plan_a ready_a reading short told refusal grounds same holds
grounds-hold = refl

-- each of the other sentences holds in its case
pub sentences-hold : holds sentences ≡ true
unfolding
    computing
    every
    distinct
    desk_ground
    desk_answer
    column
    desk
    ask
    asks
    last
    started_by
    in_order
    tasks_a
    plan_a
    ready_a
    over_a
    one_order_a
    single
    day_a
    reading
    short
    told
    refusal
    records_a
    roots_only
    records_alike
    surveyed
    counts
    standing
    in_room
    sentences
    same
    holds
sentences-hold = refl

-- so does each row of other bounds
pub bounds-hold : holds bounds ≡ true
unfolding
    computing
    ask
    asks
    last
    started_by
    in_order
    tasks_a
    plan_a
    begun_a
    ready_a
    over_a
    day_a
    reading
    short
    told
    refusal
    counts
    standing
    in_room
    lack_told
    lack_after
    written_after
    written_a
    cleaned_a
    one_processor_a
    narrow
    bounds
    same
    holds
bounds-hold = refl

-- "Choosing by activation order where the execution order should choose": with execution order 2, 1, 3 step 2 starts first
pub execution-chooses :
    started_by (last (tasks_a 12 ++ in_orders (1 ∷ 2 ∷ 3 ∷ []) (2 ∷ 1 ∷ 3 ∷ [])) begin) ≡ 2 ∷ 1 ∷ []
unfolding computing ask asks last started_by in_orders tasks_a
execution-chooses = refl

-- plan A's whole output
pub day-A :
    print day_a
    ≡ ascii "begin peak=7 by=2 booked=6 used=6 full=857 start 1\n"
    ++ ascii "done 1 offers=0 booked=7 used=7 full=1000 start 2\n"
    ++ ascii "done 2 offers=1 booked=3 used=3 full=428 start 3\n"
    ++ ascii "done 3 offers=0 booked=1 used=1 full=142 start -\n"
    ++ ascii "fetch booked=0\n"
unfolding computing day_a
day-A = refl

-- the same without its execution order, which is the same as its activation order
pub day-A-alone : print (take 38 day_a ++ drop 47 day_a) ≡ print day_a
unfolding computing day_a
day-A-alone = refl
