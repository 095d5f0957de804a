-- Laws of a message's bytes: how many there are.
-- Assumes nothing.
use mathlib.Core.Path.{◌≡◌}
use Prim.Native.Nat.{◌+◌}
use native.Mathlib.Omega.{arith}
use lib.ListN.{length, length-append}
use Rattle.octets.specs.Bytes.{bytes}
use Rattle.octets.proofs.Numbers.{length-bytes}
use Rattle.line.specs.Limits.{header_length, shortest_message}
use Rattle.line.specs.Message.{Message, body, message}

pub length-body : (m : Message) → length (body m) ≡ header_length + length m.payload
unfolding body bytes
length-body m = omega arith

pub length-message : (m : Message) → length (message m) ≡ shortest_message + length m.payload
unfolding message
length-message m = simp (length-append, length-bytes, length-body) (omega arith)
