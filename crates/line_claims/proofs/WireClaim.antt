-- Wire bytes split at their zeros, and the claim that two lists of messages with the same wire bytes are equal.
-- Assumes nothing.
use mathlib.Core.Path.{◌≡◌, refl, sym, ◌∙◌}
use mathlib.Core.List.{List, [], ◌∷◌, ◌++◌, map, append_assoc}
use Prim.Native.Nat.{ℕ}
use Rattle.octets.specs.Bytes.{Each}
use Rattle.line.specs.Message.{Message, InRange, message}
use Rattle.line.specs.Cobs.{cobs}
use Rattle.line.specs.Frame.{frame, WireBytes, over, idle, sent, split, non_empty, form}
use Rattle.line.proofs.Pieces.{split_at}
use Rattle.line_claims.proofs.CobsClaims.{above_zero}
use Rattle.line_claims.proofs.JudgeClaim.{judge-of-message}
use Rattle.line_claims.specs.Demand3.{OneMeaning}

-- ---- wire bytes

pub split-frame : (m : Message) (w : List ℕ) → split (frame m ++ w) ≡ record { closed = form m ∷ (split w).closed; rest = (split w).rest }
unfolding frame
split-frame m w = rw append_assoc (split_at (form m) w (above_zero (message m)))

-- the pieces of wire bytes that are not empty are the messages' COBS forms
pub wire-forms : {ms : List Message} {w : List ℕ} → WireBytes ms w → non_empty (split w).closed ≡ map form ms
unfolding split non_empty cobs
wire-forms over = refl
wire-forms (idle w) = wire-forms w
wire-forms (sent {m = m} {w = w} r ws) = rw (split-frame m w, wire-forms ws)

-- wire bytes end with a zero, if there are any
pub wire-rest : {ms : List Message} {w : List ℕ} → WireBytes ms w → (split w).rest ≡ []
unfolding split
wire-rest over = refl
wire-rest (idle w) = wire-rest w
wire-rest (sent {m = m} {w = w} r ws) = rw (split-frame m w) (wire-rest ws)

-- what was sent is in range
pub wire-range : {ms : List Message} {w : List ℕ} → WireBytes ms w → Each InRange ms
wire-range over = tt
wire-range (idle w) = wire-range w
wire-range (sent r w) = (r, wire-range w)

-- ---- the claim

-- a form is read as one message alone
forms-same : (ms ns : List Message) → Each InRange ms → Each InRange ns → map form ms ≡ map form ns → ms ≡ ns
forms-same [] [] r q e = refl
forms-same [] (n ∷ ns) r q e = cc
forms-same (m ∷ ms) [] r q e = cc
forms-same (m ∷ ms) (n ∷ ns) r q e =
    let s = forms-same ms ns r.1 q.1 (cc) in
    cc (judge-of-message m r.0, judge-of-message n q.0)

pub one_meaning : OneMeaning
one_meaning ms ns w a b = forms-same ms ns (wire-range a) (wire-range b) (sym (wire-forms a) ∙ wire-forms b)
