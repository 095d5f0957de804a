-- What is heard at a 00: the verdict of the line layer's tests on what has come of the frame.
-- Assumes nothing.
use mathlib.Core.Path.{◌≡◌, refl}
use mathlib.Core.Bool.{true}
use mathlib.Core.List.{List}
use mathlib.Core.Option.{Option, none, some, map}
use Prim.Native.Nat.{ℕ}
use Rattle.line.specs.Judge.{LineVerdict, failure, good, judge_received}
use Rattle.line.specs.Reader.{received_of}
use Rattle.line.specs.Reader as LineReader
use Rattle.line.proofs.Received.{finish-data}
use Rattle.requester.specs.Requester.{hear}
use Rattle.requester.specs.Calls.{heard_of}

-- by the answer of the line reader and the state that it leaves, in which the data of a message stand
pub finished-heard : (number : ℕ) (s : List ℕ) → LineReader.valid_reader s ≡ true
    → heard_of number (LineReader.finish s).state (LineReader.finish s).answer ≡ map (hear number) (judge_received (received_of s))
unfolding LineReader.finish LineReader.verdict_report heard_of
finished-heard number s v = by (judge_received (received_of s)) refl
  where
    by : (o : Option LineVerdict) → judge_received (received_of s) ≡ o
        → heard_of number (LineReader.finish s).state (LineReader.closed_report o) ≡ map (hear number) o
    by none e = refl
    by (some (failure reason sequence)) e = refl
    by (some (good m)) e = rw (finish-data s v m e)
