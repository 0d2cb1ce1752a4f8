-- Calls of the command function, one after another, by its contract, and what the questions answer, by theirs.
use Rattle.std.specs.Prelude.{◌≡◌, Bool, true, false, ◌&&◌, ◌||◌, List, [], ◌∷◌, ◌++◌, map, ℕ, ◌+◌, ◌^◌, ◌≤◌, ◌<◌, length}
use Rattle.format.specs.Command.{Command, read, decode}
use Rattle.rules.specs.Answer as rules
use Rattle.rules.specs.Question as questions
use Rattle.numbers.specs.Limits.{least_starts}
use Rattle.numbers.specs.Lists.{at}
use Rattle.whys.specs.Why.{Reason, why}
use Rattle.streams.specs.Write.{Wrote, write}
use Rattle.postorders.specs.Find.{find_order}
use Rattle.rules.specs.Day as days
use Rattle.words.specs.Contents.{contents}
use Rattle.answer.specs.declared.Answer.{Answer}
use Rattle.answer.specs.Meaning.{plan_of, answered_of}
use Rattle.answer.specs.ValidPlan.{Commanded}

-- one call: what was asked, on any bytes at any place with any start list, and what the caller received: the answer, and the words of
-- the plan and the start list as they are then
pub record Call : Type 0 where
  pub asking : rules.Asking
  pub answer : Answer
  pub left : List ℕ
  pub list : List ℕ

-- what the command function ensures of a call on the words w
abbrev pub CallContract : List ℕ → Call → Type 0
CallContract w c = Commanded w c.asking c.answer c.left c.list

-- "Each finds the plan as the one before left it"
unfoldable pub Calls : List ℕ → List Call → Type 0
Calls w [] = Unit {0}
Calls w (c ∷ later) = CallContract w c × Calls c.left later

-- the words that a list of calls leaves
unfoldable pub left_by : List ℕ → List Call → List ℕ
left_by w [] = w
left_by w (c ∷ later) = left_by c.left later

-- all that was received with a call, and with a list of calls, and what was asked
abbrev pub received : Call → rules.Answered
received c = answered_of c.answer (contents c.left) c.list

unfoldable pub asked : List Call → List rules.Asking
asked calls = map (λ c. c.asking) calls

unfoldable pub all_received : List Call → List rules.Answered
all_received calls = map received calls

-- a call that is accepted, one that opens a day and one that opens a plan, by the bytes that were asked and what was received
abbrev pub accepted : Call → Bool
accepted c = days.accepts (received c)

abbrev pub opens_day : Call → Bool
opens_day c = days.begins_day c.asking (received c)

abbrev pub opens_plan : Call → Bool
opens_plan c = days.begins_plan c.asking (received c)

unfoldable pub next_plan : List Call → Bool
next_plan [] = false
next_plan (c ∷ later) = opens_plan c || next_plan later

unfoldable pub all_accepted : List Call → Bool
all_accepted [] = true
all_accepted (c ∷ later) = accepted c && all_accepted later

-- calls that read a stream from a place up to an end, each where the one before has come to, with start lists that are long enough
unfoldable pub Reads : List ℕ → ℕ → ℕ → List Call → Type 0
Reads stream place end [] = place ≡ end
Reads stream place end (c ∷ later) =
    (c.asking.stream ≡ stream)
    × (c.asking.place ≡ place)
    × (least_starts ≤ length c.asking.list)
    × (place < end)
    × Reads stream (place + c.answer.used) end later

-- a call that asks this command, with a start list that is long enough
pub record Asks (k : Command) (c : Call) : Type 0 where
  pub used : ℕ
  pub bytes : decode c.asking.stream c.asking.place ≡ read k used
  pub long : least_starts ≤ length c.asking.list

-- calls that ask these commands, one after another
unfoldable pub AskEach : List Command → List Call → Type 0
AskEach [] [] = Unit {0}
AskEach [] (c ∷ later) = ⊥
AskEach (k ∷ ks) [] = ⊥
AskEach (k ∷ ks) (c ∷ later) = Asks k c × AskEach ks later

-- what happened with a list of calls, in order
unfoldable pub history : List Call → List days.Event
history [] = []
history (c ∷ later) = days.happens c.asking (received c) ++ history later

-- a list that can be lent: its entries have so many bits, and their number 64
pub record Lent (bits : ℕ) (list : List ℕ) : Type 0 where
  pub small : (k : ℕ) → at list k < 2 ^ bits
  pub few : length list < 2 ^ 64

-- "a lent list of bytes", and "a lent list of step numbers"
abbrev pub Bytes : List ℕ → Type 0
Bytes list = Lent 8 list

abbrev pub Entries : List ℕ → Type 0
Entries list = Lent 16 list

-- answers to the questions, asked of the words w, as each question ensures its own
pub record Answers (w : List ℕ) : Type 0 where
  pub phase : ℕ
  pub booked : ℕ
  pub in_use : ℕ
  pub fullness : ℕ
  pub standing : List ℕ
  -- why each task is not starting, by its number, which has 16 bits
  pub reason : ℕ → Reason
  -- what the writer answers and leaves of each list that is lent to it
  pub wrote : List ℕ → Wrote
  -- what the order finder answers and leaves of each list that is lent to it
  pub found : List ℕ → Wrote
  pub phase_is : phase ≡ (plan_of w).phase
  pub booked_is : booked ≡ questions.booked (plan_of w)
  pub in_use_is : in_use ≡ questions.in_use (plan_of w)
  pub fullness_is : fullness ≡ questions.fullness (plan_of w)
  pub standing_is : standing ≡ questions.standing (plan_of w)
  pub reason_is : (i : ℕ) → i < 2 ^ 16 → reason i ≡ why (plan_of w) i
  pub wrote_is : (list : List ℕ) → Bytes list → wrote list ≡ write (plan_of w) list
  pub found_is : (list : List ℕ) → Entries list → found list ≡ find_order (plan_of w) list
