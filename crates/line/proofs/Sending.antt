-- Laws of a call of the writer: its refusals, and the frame that it puts into the room.
-- Assumes nothing.
use mathlib.Core.Path.{◌≡◌, sym}
use mathlib.Core.List.{List, [], ◌∷◌, ◌++◌}
use Prim.Native.Nat.{ℕ, ◌+◌, ◌≤◌, ◌<◌}
use native.Mathlib.Omega.{arith}
use borrow.Author.Tests.{lt-ltb, le-ltb}
use lib.ListN.{length, set, length-append}
use Rattle.octets.specs.Bytes.{overlay}
use Rattle.line.specs.Limits.{longest_data}
use Rattle.line.specs.Message.{Message, message}
use Rattle.line.specs.Cobs.{cobs}
use Rattle.line.specs.Frame.{frame}
use Rattle.line.specs.Writer.{WriteOutcome, write_outcome, write_into, write_promise}
use Rattle.std.specs.Prelude.{Ok, Err}
use Rattle.refusals.specs.declared.Refusal.TheVariants.{NoRoom, TooLong}
use Rattle.line.proofs.Assemble.{lay-byte}

-- bytes and one 00 more: no room for the 00, and room for all
pub send-refused : (bs out : List ℕ) {k : ℕ} → k ≡ length bs → length out ≤ k
    → write_outcome (Err NoRoom) out ≡ write_into (bs ++ 0 ∷ []) out
unfolding write_into
send-refused bs out e h = rw (lt-ltb (length out) (length (bs ++ 0 ∷ [])) (simp length-append (omega arith)))

pub send-done : (bs out : List ℕ) {t : List ℕ} {k : ℕ} → k ≡ length bs → k < length out → t ≡ overlay 0 bs out
    → write_outcome (Ok (k + 1)) (set t k 0) ≡ write_into (bs ++ 0 ∷ []) out
unfolding write_into
send-done bs out {k} e h laid =
    let n : length (bs ++ 0 ∷ []) ≡ k + 1 = simp length-append (omega arith) in
    rw (le-ltb (length out) (length (bs ++ 0 ∷ [])) (omega arith), n, lay-byte bs out k (sym e) laid 0 h)

-- too much data, and no more than is allowed
pub write-refused : (m : Message) (out : List ℕ) → longest_data < length m.payload → write_outcome (Err TooLong) out ≡ write_promise m out
unfolding write_promise
write-refused m out h = rw (lt-ltb longest_data (length m.payload) h)

pub write-sent : (m : Message) (out : List ℕ) {bs : List ℕ} {o : WriteOutcome} → length m.payload ≤ longest_data
    → bs ≡ message m → o ≡ write_into (cobs bs ++ 0 ∷ []) out → o ≡ write_promise m out
unfolding write_promise frame
write-sent m out h e s = rw (le-ltb longest_data (length m.payload) h) (rw e at s)
