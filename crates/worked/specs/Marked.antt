-- The paper's cases as tables: those marked †, the small inputs of the grounds, and sentences beside them. "Cases marked † form one
-- table with a single claim over it." A row has what the rules give and what the paper says.
use Rattle.std.specs.Prelude.{Bool, true, false, ◌&&◌, List, [], ◌∷◌, ◌++◌, map, ℕ, eqb, take, drop, replicate}
use Rattle.numbers.specs.Lists.{at}
use Rattle.rules.specs.State.{State, none, needs}
use Rattle.format.specs.Command.{Command, plan, task, activation, execution, begin, done, fetch, places, bytes}
use Rattle.rules.specs.Answer.{Asking, Answered, command}
use Rattle.rules.specs.Question.{booked, in_use, fullness_of, fullness, standing}
use Rattle.whys.specs.Why.{Reason, refused, ended, running, not_booked, unfed, no_processor, why}
use Rattle.streams.specs.Write.{write}
use Rattle.peaks.specs.Desk.{StepRecord, desk}
use Rattle.texts.specs.Text.{ascii}
use Rattle.texts.specs.Printer.{print}
use Rattle.rules.specs.Day.{after}

pub record Row : Type 0 where
  pub given : List ℕ
  pub stated : List ℕ

-- a command by itself, with a start list of 64 entries
unfoldable pub ask : Command → Asking
ask c = record { stream = bytes c; place = 0; list = replicate 64 0 }

unfoldable pub asks : List Command → List Asking
asks [] = []
asks (c ∷ later) = ask c ∷ asks later

-- what the last command is answered after the others
unfoldable pub last : List Command → Command → Answered
last earlier c = command (after none (asks earlier)) (ask c)

-- the tasks that a command starts, as the start list has them
unfoldable pub started_by : Answered → List ℕ
started_by a = take a.answer.starts a.list

-- the peak that a command is answered, and its step
unfoldable pub peak_told : Answered → List ℕ
peak_told a = a.answer.peaks.chilled.trays ∷ a.answer.peaks.chilled.task ∷ []

-- both orders 1 to n
unfoldable pub in_order : List ℕ → List Command
in_order [] = []
in_order (i ∷ later) = activation i ∷ execution i ∷ in_order later

-- one order, then the other
unfoldable pub in_orders : List ℕ → List ℕ → List Command
in_orders act exec = map activation act ++ map execution exec

-- plan A in a cold room of M places, without its orders and with them
unfoldable pub tasks_a : ℕ → List Command
tasks_a bound = plan 3 2 bound ∷ task 3 5 1 ∷ task 3 5 1 ∷ task 0 0 1 ∷ []

unfoldable pub plan_a : ℕ → List Command
plan_a bound = tasks_a bound ++ in_order (1 ∷ 2 ∷ 3 ∷ [])

-- the bytes of plan A and of its day, in the order of the paper: "then 03 and then 04 for steps 1, 2, 3"; and the fetch
unfoldable pub day_a : List ℕ
day_a =
    1 ∷ 3 ∷ 0 ∷ 2 ∷ 7 ∷ 0 ∷ 0 ∷ 0
    ∷ 2 ∷ 3 ∷ 0 ∷ 5 ∷ 0 ∷ 1 ∷ 0
    ∷ 2 ∷ 3 ∷ 0 ∷ 5 ∷ 0 ∷ 1 ∷ 0
    ∷ 2 ∷ 0 ∷ 0 ∷ 0 ∷ 0 ∷ 1 ∷ 0
    ∷ 3 ∷ 1 ∷ 0 ∷ 3 ∷ 2 ∷ 0 ∷ 3 ∷ 3 ∷ 0
    ∷ 4 ∷ 1 ∷ 0 ∷ 4 ∷ 2 ∷ 0 ∷ 4 ∷ 3 ∷ 0
    ∷ 5
    ∷ 6 ∷ 1 ∷ 0
    ∷ 6 ∷ 2 ∷ 0
    ∷ 6 ∷ 3 ∷ 0
    ∷ 7
    ∷ []

-- plan A once its day has begun
unfoldable pub begun_a : ℕ → List Command
begun_a bound = plan_a bound ++ (begin ∷ [])

-- plan A once its trolley stands loaded, and once it is fetched
unfoldable pub ready_a : List Command
ready_a = plan_a 7 ++ (begin ∷ done 1 ∷ done 2 ∷ done 3 ∷ [])

unfoldable pub over_a : List Command
over_a = ready_a ++ (fetch ∷ [])

-- plan A without an execution order
unfoldable pub one_order_a : ℕ → List ℕ → List Command
one_order_a bound act = tasks_a bound ++ map activation act

-- plan C
unfoldable pub plan_c : List Command
plan_c =
    (plan 4 2 6 ∷ task 3 1 2 ∷ task 3 2 1 ∷ task 4 1 2 ∷ task 0 0 3 ∷ []) ++ in_order (1 ∷ 2 ∷ 3 ∷ 4 ∷ [])

-- plan C with its day as far as some commands, the last of which is looked at
unfoldable pub day_c : List Command → Command → Answered
day_c earlier c = last (plan_c ++ earlier) c

-- one step, work 0, out 0, M = 0
unfoldable pub single : List Command
single = plan 1 1 0 ∷ task 0 0 0 ∷ in_order (1 ∷ [])

unfoldable pub marked : List Row
marked =
    -- A: peak 7, "in plan A it reads `peak=7 by=2`"
    record { given = (last (plan_a 7) begin).answer.number ∷ peak_told (last (plan_a 7) begin); stated = 0 ∷ 7 ∷ 2 ∷ [] }
    -- A at M = 6: refused 9
    ∷ record { given = (last (plan_a 6) begin).answer.number ∷ []; stated = 9 ∷ [] }
    -- A at M = 12: BEGIN starts 1 and 2
    ∷ record { given = started_by (last (plan_a 12) begin); stated = 1 ∷ 2 ∷ [] }
    -- A at M = 11: BEGIN starts 1 only
    ∷ record { given = started_by (last (plan_a 11) begin); stated = 1 ∷ [] }
    -- C: needs 3, 3, 6, 5
    ∷ record {
      given =
          needs (day_c [] begin).state 1
          ∷ needs (day_c [] begin).state 2
          ∷ needs (day_c [] begin).state 3
          ∷ needs (day_c [] begin).state 4
          ∷ [];
      stated = 3 ∷ 3 ∷ 6 ∷ 5 ∷ [];
    }
    -- peak 6, while step 3 runs
    ∷ record { given = peak_told (day_c [] begin); stated = 6 ∷ 3 ∷ [] }
    -- BEGIN books all four, B = 6, starts 1 and 2: two run and two are booked
    ∷ record {
      given = (day_c [] begin).state.standings ++ (booked (day_c [] begin).state ∷ started_by (day_c [] begin));
      stated = (0 ∷ 2 ∷ 2 ∷ 1 ∷ 1 ∷ []) ++ (6 ∷ 1 ∷ 2 ∷ []);
    }
    -- DONE 1: one offer, step 3 holds 3 trays, B = 6, in use 5, no start
    ∷ record {
      given =
          (day_c (begin ∷ []) (done 1)).answer.offers
          ∷ at (day_c (begin ∷ []) (done 1)).state.stores.chilled.booked 3
          ∷ booked (day_c (begin ∷ []) (done 1)).state
          ∷ in_use (day_c (begin ∷ []) (done 1)).state
          ∷ started_by (day_c (begin ∷ []) (done 1));
      stated = 1 ∷ 3 ∷ 6 ∷ 5 ∷ [];
    }
    -- DONE 2: B = 6, starts 3
    ∷ record {
      given =
          booked (day_c (begin ∷ done 1 ∷ []) (done 2)).state ∷ started_by (day_c (begin ∷ done 1 ∷ []) (done 2));
      stated = 6 ∷ 3 ∷ [];
    }
    -- DONE 3: B = 5, starts 4
    ∷ record {
      given =
          booked (day_c (begin ∷ done 1 ∷ done 2 ∷ []) (done 3)).state
          ∷ started_by (day_c (begin ∷ done 1 ∷ done 2 ∷ []) (done 3));
      stated = 5 ∷ 4 ∷ [];
    }
    -- DONE 4: "plan C ends with B = 3"
    ∷ record {
      given =
          (day_c (begin ∷ done 1 ∷ done 2 ∷ done 3 ∷ []) (done 4)).answer.number
          ∷ booked (day_c (begin ∷ done 1 ∷ done 2 ∷ done 3 ∷ []) (done 4)).state
          ∷ [];
      stated = 0 ∷ 3 ∷ [];
    }
    -- FETCH: B = 0
    ∷ record {
      given =
          (day_c (begin ∷ done 1 ∷ done 2 ∷ done 3 ∷ done 4 ∷ []) fetch).answer.number
          ∷ booked (day_c (begin ∷ done 1 ∷ done 2 ∷ done 3 ∷ done 4 ∷ []) fetch).state
          ∷ [];
      stated = 0 ∷ 0 ∷ [];
    }
    -- one step, work 0, out 0, M = 0: accepted, peak 0, starts 1; the peak has its step
    ∷ record {
      given = (last single begin).answer.number ∷ peak_told (last single begin) ++ started_by (last single begin);
      stated = 0 ∷ 0 ∷ 1 ∷ 1 ∷ [];
    }
    ∷ []

-- what stands at a place of a stream, with a start list of 64 entries
unfoldable pub reading : List ℕ → ℕ → Asking
reading stream place = record { stream = stream; place = place; list = replicate 64 0 }

-- the same with a start list of 63
unfoldable pub short : List ℕ → Asking
short stream = record { stream = stream; place = 0; list = replicate 63 0 }

-- the counts of the answer that the last asking gets after the others: the number, bytes used, starts, the peak, its step, and offers
unfoldable pub told : List Asking → Asking → List ℕ
told earlier a =
    let said = (command (after none earlier) a).answer in
    said.number ∷ said.used ∷ said.starts ∷ said.peaks.chilled.trays ∷ said.peaks.chilled.task ∷ said.offers ∷ []

-- the counts of a refusal: "its number, with bytes used, starts and every other count 0"
unfoldable pub refusal : ℕ → List ℕ
refusal k = k ∷ 0 ∷ 0 ∷ 0 ∷ 0 ∷ 0 ∷ []

-- the small inputs of the grounds, in their order, and the limits of n and p
unfoldable pub grounds : List Row
grounds =
    -- 1 `02 03 00`
    record { given = told [] (reading (2 ∷ 3 ∷ 0 ∷ []) 0); stated = refusal 1 }
    -- 2 `09`
    ∷ record { given = told [] (reading (9 ∷ []) 0); stated = refusal 2 }
    -- 3 `05` as first command
    ∷ record { given = told [] (reading (5 ∷ []) 0); stated = refusal 3 }
    -- "3 for FETCH outside ready and for DONE or PLAN in ready": `07` in orders, `06 03 00` and PLAN in ready
    ∷ record { given = told (asks (plan_a 7)) (reading (7 ∷ []) 0); stated = refusal 3 }
    ∷ record { given = told (asks ready_a) (reading (6 ∷ 3 ∷ 0 ∷ []) 0); stated = refusal 3 }
    ∷ record { given = told (asks ready_a) (ask (plan 3 2 7)); stated = refusal 3 }
    -- 4 `01 00 00 02 07 00 00 00`
    ∷ record { given = told [] (reading (1 ∷ 0 ∷ 0 ∷ 2 ∷ 7 ∷ 0 ∷ 0 ∷ 0 ∷ []) 0); stated = refusal 4 }
    -- 5 `03 01 00 03 01 00` in plan A, the second command of the stream
    ∷ record {
      given =
          told (asks (tasks_a 7) ++ (reading (3 ∷ 1 ∷ 0 ∷ 3 ∷ 1 ∷ 0 ∷ []) 0 ∷ [])) (reading (3 ∷ 1 ∷ 0 ∷ 3 ∷ 1 ∷ 0 ∷ []) 3);
      stated = refusal 5;
    }
    -- 6 `06 03 00` after A's `05`
    ∷ record { given = told (asks (plan_a 7 ++ (begin ∷ []))) (reading (6 ∷ 3 ∷ 0 ∷ []) 0); stated = refusal 6 }
    -- 7 n = 1 and step `02 01 00 00 00 00 00`, at `05`
    ∷ record {
      given =
          told (ask (plan 1 1 0) ∷ reading (2 ∷ 1 ∷ 0 ∷ 0 ∷ 0 ∷ 0 ∷ 0 ∷ []) 0 ∷ asks (in_order (1 ∷ []))) (reading (5 ∷ []) 0);
      stated = refusal 7;
    }
    -- 8 A with activation order 3, 1, 2, at `05`
    ∷ record {
      given = told (asks (tasks_a 7 ++ in_orders (3 ∷ 1 ∷ 2 ∷ []) (1 ∷ 2 ∷ 3 ∷ []))) (reading (5 ∷ []) 0);
      stated = refusal 8;
    }
    -- 9 A with M = 6, at `05`
    ∷ record { given = told (asks (plan_a 6)) (reading (5 ∷ []) 0); stated = refusal 9 }
    -- 10 a list of 63, any command: one that would be accepted with 64, and no byte at all
    ∷ record { given = told (asks (plan_a 7)) (short (bytes begin)); stated = refusal 10 }
    ∷ record { given = told [] (short []); stated = refusal 10 }
    -- n = 1,024 accepted, 1,025 refused 4
    ∷ record { given = told [] (ask (plan 1024 1 0)); stated = 0 ∷ 8 ∷ 0 ∷ 0 ∷ 0 ∷ 0 ∷ [] }
    ∷ record { given = told [] (ask (plan 1025 1 0)); stated = refusal 4 }
    ∷ record { given = told (asks (plan 1 1 0 ∷ [])) (ask (task 0 65535 65535)); stated = 0 ∷ 7 ∷ 0 ∷ 0 ∷ 0 ∷ 0 ∷ [] }
    -- p = 64 accepted, 65 refused 4
    ∷ record { given = told [] (ask (plan 1 64 0)); stated = 0 ∷ 8 ∷ 0 ∷ 0 ∷ 0 ∷ 0 ∷ [] }
    ∷ record { given = told [] (ask (plan 1 65 0)); stated = refusal 4 }
    ∷ []

-- plan A as the desk's list of records, and three steps without a parent
unfoldable pub records_a : List StepRecord
records_a =
    record { parent = 3; work = 5; out = 1 }
    ∷ record { parent = 3; work = 5; out = 1 }
    ∷ record { parent = 0; work = 0; out = 1 }
    ∷ []

unfoldable pub roots_only : List StepRecord
roots_only = replicate 3 (record { parent = 0; work = 5; out = 1 })

-- two steps with the same sum, and their parent
unfoldable pub records_alike : List StepRecord
records_alike =
    record { parent = 3; work = 5; out = 0 }
    ∷ record { parent = 3; work = 5; out = 0 }
    ∷ record { parent = 0; work = 0; out = 1 }
    ∷ []

-- the number, the peak and its step that the desk is answered
unfoldable pub surveyed : List StepRecord → List ℕ → List ℕ
surveyed records order =
    (desk records order).number ∷ (desk records order).peak.trays ∷ (desk records order).peak.task ∷ []

-- the phase of a plan, what lies in the cold room, and the standing
unfoldable pub in_room : State → List ℕ
in_room s = s.phase ∷ booked s ∷ in_use s ∷ fullness s ∷ standing s

-- sentences of the paper that have no case of their own there
unfoldable pub sentences : List Row
sentences =
    -- "on a refusal `refused K at O` (number, byte offset of the command counted from 0), then stops": in A's day `06 03 00` after
    -- `05`, with another command behind it
    record {
      given = print (take 48 day_a ++ (6 ∷ 3 ∷ 0 ∷ 6 ∷ 1 ∷ 0 ∷ []));
      stated = ascii "begin peak=7 by=2 booked=6 used=6 full=857 start 1\n" ++ ascii "refused 6 at 48\n";
    }
    -- the desk: A's peak, and its step
    ∷ record { given = surveyed records_a (1 ∷ 2 ∷ 3 ∷ []); stated = 0 ∷ 7 ∷ 2 ∷ [] }
    -- "the earliest in the activation order where several are equal": not the lowest number, nor the highest
    ∷ record { given = surveyed records_alike (1 ∷ 2 ∷ 3 ∷ []); stated = 0 ∷ 5 ∷ 1 ∷ [] }
    ∷ record { given = surveyed records_alike (2 ∷ 1 ∷ 3 ∷ []); stated = 0 ∷ 5 ∷ 2 ∷ [] }
    -- "unequal lengths (4)", and "A refusal answers its number and peak 0"
    ∷ record { given = surveyed records_a (1 ∷ 2 ∷ []); stated = 4 ∷ 0 ∷ 0 ∷ [] }
    -- 5 before 7: a step twice, where no step has a parent
    ∷ record { given = surveyed roots_only (1 ∷ 1 ∷ 2 ∷ []); stated = 5 ∷ 0 ∷ 0 ∷ [] }
    ∷ record { given = surveyed roots_only (1 ∷ 2 ∷ 3 ∷ []); stated = 7 ∷ 0 ∷ 0 ∷ [] }
    ∷ record { given = surveyed records_a (3 ∷ 1 ∷ 2 ∷ []); stated = 8 ∷ 0 ∷ 0 ∷ [] }
    -- "n of each at most": one entry more is not in turn, in either order
    ∷ record { given = told (asks (plan_a 7)) (ask (activation 1)); stated = refusal 3 }
    ∷ record { given = told (asks (plan_a 7)) (ask (execution 1)); stated = refusal 3 }
    -- fullness: "0 if M is 0; 1,000 if b is at least M; else 1,000 times b divided by M, rounded down"
    ∷ record {
      given = fullness_of 0 0 ∷ fullness_of 5 0 ∷ fullness_of 7 7 ∷ fullness_of 6 7 ∷ fullness_of 4294967294 4294967295 ∷ [];
      stated = 0 ∷ 0 ∷ 1000 ∷ 857 ∷ 999 ∷ [];
    }
    ∷ record { given = fullness (last single begin).state ∷ []; stated = 0 ∷ [] }
    -- a BEGIN that is refused leaves the plan in orders: no step runs, BEGIN may come again, and so may PLAN
    ∷ record { given = told (asks (plan_a 6 ++ (begin ∷ []))) (ask (done 1)); stated = refusal 3 }
    ∷ record { given = told (asks (plan_a 6 ++ (begin ∷ []))) (ask begin); stated = refusal 9 }
    ∷ record { given = told (asks (plan_a 6 ++ (begin ∷ []))) (ask (plan 3 2 7)); stated = 0 ∷ 8 ∷ 0 ∷ 0 ∷ 0 ∷ 0 ∷ [] }
    ∷ record { given = told (asks (plan_a 7) ++ (short (bytes begin) ∷ [])) (ask begin); stated = 0 ∷ 1 ∷ 1 ∷ 7 ∷ 2 ∷ 0 ∷ [] }
    -- "with the activation order used for both": A at M = 12 with activation order 2, 1, 3 and no 04 starts 2, then 1
    ∷ record { given = started_by (last (one_order_a 12 (2 ∷ 1 ∷ 3 ∷ [])) begin); stated = 2 ∷ 1 ∷ [] }
    -- "3 as before where 1 to n − 1 entries of 04 were given"
    ∷ record { given = told (asks (one_order_a 7 (1 ∷ 2 ∷ 3 ∷ []) ++ (execution 1 ∷ []))) (ask begin); stated = refusal 3 }
    ∷ record { given = told (asks (one_order_a 7 (1 ∷ 2 ∷ 3 ∷ []) ++ (execution 1 ∷ execution 2 ∷ []))) (ask begin); stated = refusal 3 }
    -- and where the activation order is not full
    ∷ record { given = told (asks (one_order_a 7 (1 ∷ 2 ∷ []))) (ask begin); stated = refusal 3 }
    -- a refused BEGIN fills nothing in: 04 is taken behind it, and then all n entries are needed
    ∷ record { given = told (asks (one_order_a 6 (1 ∷ 2 ∷ 3 ∷ []))) (ask begin); stated = refusal 9 }
    ∷ record { given = told (asks (one_order_a 6 (1 ∷ 2 ∷ 3 ∷ []) ++ (begin ∷ []))) (ask (execution 1)); stated = 0 ∷ 3 ∷ 0 ∷ 0 ∷ 0 ∷ 0 ∷ [] }
    ∷ record { given = told (asks (one_order_a 6 (1 ∷ 2 ∷ 3 ∷ []) ++ (begin ∷ execution 1 ∷ []))) (ask begin); stated = refusal 3 }
    -- an accepted one completes the order: 04 is out of turn
    ∷ record { given = told (asks (one_order_a 7 (1 ∷ 2 ∷ 3 ∷ []) ++ (begin ∷ []))) (ask (execution 1)); stated = refusal 3 }
    -- one step: no entry of 04 will do as well as one
    ∷ record { given = told (asks (plan 1 1 0 ∷ task 0 0 0 ∷ activation 1 ∷ [])) (ask begin); stated = 0 ∷ 1 ∷ 1 ∷ 0 ∷ 1 ∷ 0 ∷ [] }
    ∷ record { given = told (asks single) (ask begin); stated = 0 ∷ 1 ∷ 1 ∷ 0 ∷ 1 ∷ 0 ∷ [] }
    -- "When the root ends, its out remains booked and in use, and the phase is a new one, ready": the phase, booked trays, trays in use
    -- and fullness, and the standing, which is "the same .. as over"
    ∷ record { given = in_room (after none (asks ready_a)); stated = 5 ∷ 1 ∷ 1 ∷ 142 ∷ 0 ∷ 0 ∷ 0 ∷ 3 ∷ [] }
    -- FETCH "frees it and leads to over"
    ∷ record { given = in_room (after none (asks over_a)); stated = 4 ∷ 0 ∷ 0 ∷ 0 ∷ 0 ∷ 0 ∷ 0 ∷ 3 ∷ [] }
    -- it uses one byte, and every other count is 0
    ∷ record { given = told (asks ready_a) (ask fetch); stated = 0 ∷ 1 ∷ 0 ∷ 0 ∷ 0 ∷ 0 ∷ [] }
    -- in ready as elsewhere 10 comes first, a command that is cut is 1 and an unknown byte 2, and 3 comes ahead of 4
    ∷ record { given = told (asks ready_a) (short (bytes fetch)); stated = refusal 10 }
    ∷ record { given = told (asks ready_a) (reading (1 ∷ 3 ∷ 0 ∷ []) 0); stated = refusal 1 }
    ∷ record { given = told (asks ready_a) (reading (9 ∷ []) 0); stated = refusal 2 }
    ∷ record { given = told (asks ready_a) (ask (plan 0 2 7)); stated = refusal 3 }
    -- "3 for FETCH outside ready": in empty, steps, running and over
    ∷ record { given = told [] (ask fetch); stated = refusal 3 }
    ∷ record { given = told (asks (plan 3 2 7 ∷ [])) (ask fetch); stated = refusal 3 }
    ∷ record { given = told (asks (plan_a 7 ++ (begin ∷ done 1 ∷ done 2 ∷ []))) (ask fetch); stated = refusal 3 }
    ∷ record { given = told (asks over_a) (ask fetch); stated = refusal 3 }
    -- in over PLAN is in turn
    ∷ record { given = told (asks over_a) (ask (plan 3 2 7)); stated = 0 ∷ 8 ∷ 0 ∷ 0 ∷ 0 ∷ 0 ∷ [] }
    -- a root without an out goes to ready too, and is fetched
    ∷ record { given = in_room (after none (asks (single ++ (begin ∷ done 1 ∷ [])))); stated = 5 ∷ 0 ∷ 0 ∷ 0 ∷ 0 ∷ 0 ∷ 0 ∷ 1 ∷ [] }
    ∷ record { given = told (asks (single ++ (begin ∷ done 1 ∷ []))) (ask fetch); stated = 0 ∷ 1 ∷ 0 ∷ 0 ∷ 0 ∷ 0 ∷ [] }
    ∷ []

-- of a task that is told as not booked: the first that waits, and what it lacks
unfoldable pub lack_told : Reason → List ℕ
lack_told (refused k) = []
lack_told ended = []
lack_told running = []
lack_told (not_booked x lack) = x ∷ lack.chilled ∷ []
lack_told (unfed c) = []
lack_told no_processor = []

unfoldable pub lack_after : List Command → ℕ → List ℕ
lack_after given i = lack_told (why (after none (asks given)) i)

-- a list of 47 bytes once a plan is written into it, and those of plan A
unfoldable pub written_after : List Command → List ℕ
written_after given = (write (after none (asks given)) (replicate 47 0)).list

unfoldable pub written_a : ℕ → List ℕ
written_a bound = 1 ∷ 3 ∷ 0 ∷ 2 ∷ bound ∷ 0 ∷ 0 ∷ 0 ∷ drop 8 (take 47 day_a)

-- plan A at M = 7 once it has had 12 places, and its trolley is fetched
unfoldable pub cleaned_a : List Command
cleaned_a = begun_a 7 ++ (places 12 ∷ done 1 ∷ done 2 ∷ done 3 ∷ fetch ∷ [])

-- plan A with one station and M = 12: all three steps are booked, and one runs
unfoldable pub one_processor_a : List Command
one_processor_a = plan 3 1 12 ∷ drop 1 (begun_a 12)

-- three steps of one tray each and their root, two stations and one place: one runs, and nobody else is booked
unfoldable pub narrow : List Command
narrow =
    (plan 4 2 1 ∷ task 4 1 0 ∷ task 4 1 0 ∷ task 4 1 0 ∷ task 0 0 0 ∷ [])
    ++ in_order (1 ∷ 2 ∷ 3 ∷ 4 ∷ [])
    ++ (begin ∷ [])

-- "Shelves out for cleaning": rows beside the † table
unfoldable pub bounds : List Row
bounds =
    -- A at M = 12 has all three steps booked, B = 12: 08 with 6 is 9, with 11 it is 13, and with 12 it is taken, the same M again
    record { given = in_room (after none (asks (begun_a 12))); stated = 3 ∷ 12 ∷ 12 ∷ 1000 ∷ 0 ∷ 1 ∷ 2 ∷ 0 ∷ [] }
    ∷ record { given = told (asks (begun_a 12)) (ask (places 6)); stated = refusal 9 }
    ∷ record { given = told (asks (begun_a 12)) (ask (places 11)); stated = refusal 13 }
    ∷ record { given = told (asks (begun_a 12)) (ask (places 12)); stated = 0 ∷ 5 ∷ 0 ∷ 0 ∷ 0 ∷ 0 ∷ [] }
    -- 13 is told by the booked trays: of these 12, 6 are in use
    ∷ record { given = told (asks one_processor_a) (ask (places 11)); stated = refusal 13 }
    -- a refused one leaves the bound: of 24 places 12 are booked
    ∷ record { given = in_room (after none (asks (begun_a 24 ++ (places 6 ∷ places 11 ∷ [])))); stated = 3 ∷ 12 ∷ 12 ∷ 500 ∷ 0 ∷ 1 ∷ 2 ∷ 0 ∷ [] }
    -- "then booking ahead and starting follow and the starts are answered as for DONE, with no offers": A at 7 with 08 of 12 starts 2 at
    -- once; no peak is answered
    ∷ record { given = told (asks (begun_a 7)) (ask (places 12)); stated = 0 ∷ 5 ∷ 1 ∷ 0 ∷ 0 ∷ 0 ∷ [] }
    ∷ record { given = started_by (last (begun_a 7) (places 12)); stated = 2 ∷ [] }
    -- one place fewer does not book step 2
    ∷ record { given = started_by (last (begun_a 7) (places 11)); stated = [] }
    -- "every rule about the cold room's places speaks of the bound in force": what a later DONE books does
    ∷ record { given = started_by (last narrow (done 1)); stated = 2 ∷ [] }
    ∷ record { given = started_by (last (narrow ++ (places 2 ∷ [])) (done 1)); stated = 3 ∷ [] }
    -- fullness does, in ready too
    ∷ record { given = in_room (after none (asks (begun_a 7 ++ (places 24 ∷ [])))); stated = 3 ∷ 12 ∷ 12 ∷ 500 ∷ 0 ∷ 1 ∷ 2 ∷ 0 ∷ [] }
    ∷ record {
      given = in_room (after none (asks (begun_a 7 ++ (places 24 ∷ done 1 ∷ done 2 ∷ done 3 ∷ []))));
      stated = 5 ∷ 1 ∷ 1 ∷ 41 ∷ 0 ∷ 0 ∷ 0 ∷ 3 ∷ [];
    }
    -- so does what a step lacks: at 7 places step 2 lacks 5, at 11 it lacks 1
    ∷ record { given = lack_after (begun_a 7) 2; stated = 2 ∷ 5 ∷ [] }
    ∷ record { given = lack_after (begun_a 7 ++ (places 11 ∷ [])) 2; stated = 2 ∷ 1 ∷ [] }
    -- "the writer writes that one", when the day is over too; a next plan has the places that it was opened with
    ∷ record { given = written_after (begun_a 7 ++ (places 12 ∷ [])); stated = written_a 12 }
    ∷ record { given = written_after cleaned_a; stated = written_a 12 }
    ∷ record { given = written_after (cleaned_a ++ plan_a 7); stated = written_a 7 }
    -- fewer places: 7 is below what is booked until step 1 has ended, and is B then
    ∷ record { given = told (asks (begun_a 7 ++ (places 12 ∷ []))) (ask (places 7)); stated = refusal 13 }
    ∷ record { given = told (asks (begun_a 7 ++ (places 12 ∷ done 1 ∷ []))) (ask (places 7)); stated = 0 ∷ 5 ∷ 0 ∷ 0 ∷ 0 ∷ 0 ∷ [] }
    -- "the peak" is that of the whole order: step 2 sets it, has ended, and B is 3
    ∷ record { given = told (asks (begun_a 7 ++ (done 1 ∷ done 2 ∷ []))) (ask (places 6)); stated = refusal 9 }
    ∷ record { given = told (asks (begun_a 7 ++ (done 1 ∷ done 2 ∷ []))) (ask (places 7)); stated = 0 ∷ 5 ∷ 0 ∷ 0 ∷ 0 ∷ 0 ∷ [] }
    -- M is any number of 32 bits
    ∷ record { given = told (asks (begun_a 7)) (ask (places 4294967295)); stated = 0 ∷ 5 ∷ 1 ∷ 0 ∷ 0 ∷ 0 ∷ [] }
    -- 10, and operands that are cut short, come first; "3" outside running, in empty, steps, orders, ready and over, ahead of 9 and 13
    ∷ record { given = told (asks (begun_a 7)) (short (bytes (places 12))); stated = refusal 10 }
    ∷ record { given = told (asks (begun_a 7)) (reading (8 ∷ 12 ∷ 0 ∷ 0 ∷ []) 0); stated = refusal 1 }
    ∷ record { given = told [] (ask (places 12)); stated = refusal 3 }
    ∷ record { given = told (asks (plan 3 2 7 ∷ [])) (ask (places 12)); stated = refusal 3 }
    ∷ record { given = told (asks (plan_a 7)) (ask (places 12)); stated = refusal 3 }
    ∷ record { given = told (asks ready_a) (ask (places 0)); stated = refusal 3 }
    ∷ record { given = told (asks over_a) (ask (places 12)); stated = refusal 3 }
    -- "Its line is `places M=` and the new bound, then booked to start as in a done line": in A's day, after `05`
    ∷ record {
      given = print (take 48 day_a ++ (8 ∷ 12 ∷ 0 ∷ 0 ∷ 0 ∷ 8 ∷ 24 ∷ 0 ∷ 0 ∷ 0 ∷ 8 ∷ 11 ∷ 0 ∷ 0 ∷ 0 ∷ []));
      stated =
          ascii "begin peak=7 by=2 booked=6 used=6 full=857 start 1\n"
          ++ ascii "places M=12 booked=12 used=12 full=1000 start 2\n"
          ++ ascii "places M=24 booked=12 used=12 full=500 start -\n"
          ++ ascii "refused 13 at 58\n";
    }
    ∷ []

-- the two lists of a row are the same
unfoldable pub same : List ℕ → List ℕ → Bool
same [] [] = true
same [] (y ∷ ys) = false
same (x ∷ xs) [] = false
same (x ∷ xs) (y ∷ ys) = eqb x y && same xs ys

-- the single claim
unfoldable pub holds : List Row → Bool
holds [] = true
holds (r ∷ later) = same r.given r.stated && holds later
