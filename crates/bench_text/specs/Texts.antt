-- The transcript as bytes. Assumes nothing.
use Rattle.std.specs.Prelude.{ℕ, ◌+◌, ◌-◌, Bool, true, false, if◌then◌else◌, List, [], ◌∷◌, ◌++◌}
use Rattle.std.specs.Prelude.{length}
use Rattle.std.specs.Prelude.{take, drop, codes, decimal, ◌==◌, nat_le}
use Rattle.refusal.specs.Names.{refusal_text}
use Rattle.refusal.specs.Replies.{Reply}
use Rattle.bench_call.specs.Texts.{byte_text, word_text}
use Rattle.trace.specs.Traces.{Traced}
use Rattle.trace.specs.declared.event.Event.{Event}
use Rattle.trace.specs.declared.event.Event.TheVariants.{Start, Byte, Stop}

abbrev pub line_end : List ℕ
line_end = 10 ∷ []

-- what an acceptance answers: a word, or nothing
abbrev pub accepted_text : List ℕ → List ℕ
accepted_text [] = codes "ok"
accepted_text (w ∷ more) = word_text w

abbrev pub reply_text : Reply → List ℕ
reply_text r = if r.number == 0 then (accepted_text r.values) else (refusal_text r)

-- A for an acknowledge, N for none
abbrev pub mark_text : Bool → List ℕ
mark_text true = codes "A"
mark_text false = codes "N"

-- one event, by whether its transfer has begun: a further start is then a repeated one
abbrev pub event_text : Bool → Event → List ℕ
event_text false Start = codes "  S"
event_text true Start = codes " Sr"
event_text begun (Byte value acknowledged) =
    codes " " ++ (byte_text value ++ (codes " " ++ mark_text acknowledged))
event_text begun Stop = codes " P" ++ line_end

-- whether a transfer goes on after an event
abbrev pub goes_on : Event → Bool
goes_on Start = true
goes_on (Byte value acknowledged) = true
goes_on Stop = false

-- a line for each transfer
abbrev pub events_text : Bool → List Event → List ℕ
events_text begun [] = []
events_text begun (e ∷ es) = event_text begun e ++ events_text (goes_on e) es

-- the events that passed between two counts of them
abbrev pub events_between : ℕ → ℕ → List Event → List Event
events_between from to es =
    if nat_le from to
    then (if nat_le to (length es) then (take (to - from) (drop from es)) else [])
    else []

-- A call as it is shown: its text and its reply, how many events had passed on the wire when it was
-- over, and what is told under its transfers.
pub record CallEntry : Type 0 where
  pub call : List ℕ
  pub reply : Reply
  pub passed : ℕ
  pub under : List ℕ

-- one call, with the transfers that it made
abbrev pub call_lines : ℕ → List Event → CallEntry → List ℕ
call_lines number es l =
    (decimal number ++ codes " ")
    ++ (l.call
    ++ (codes ": " ++ (reply_text l.reply ++ (line_end ++ (events_text false es ++ l.under)))))

-- calls numbered on after the given number; passed says how many of the events are earlier calls'
abbrev pub calls_lines : List Event → ℕ → ℕ → List CallEntry → List ℕ
calls_lines es number passed [] = []
calls_lines es number passed (l ∷ ls) =
    call_lines (number + 1) (events_between passed l.passed es) l
    ++ calls_lines es (number + 1) l.passed ls

-- by how many events found no room
abbrev pub full_text : ℕ → List ℕ
full_text lost =
    if lost == 0 then [] else (codes "frames left out: the trace is full" ++ line_end)

-- how many calls there were, and how many transfers failed
abbrev pub tally_text : ℕ → ℕ → List ℕ
tally_text count failed =
    codes "calls "
    ++ (decimal count ++ (codes ", failed transfers " ++ (decimal failed ++ line_end)))

-- the whole: what passed on the wire, how many transfers failed, and the calls
abbrev pub transcript_text : Traced → ℕ → List CallEntry → List ℕ
transcript_text trace failed ls =
    calls_lines trace.events 0 0 ls ++ (full_text trace.lost ++ tally_text (length ls) failed)

-- the whole where no bus is made
abbrev pub unmade_text : Reply → List ℕ
unmade_text r = codes "bus: " ++ (refusal_text r ++ line_end)
