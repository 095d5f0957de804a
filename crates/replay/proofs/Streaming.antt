-- Laws of replaying an input read by read to an output.
-- Assumes nothing.
use mathlib.Core.Path.{◌≡◌, refl, ap, ◌∙◌}
use mathlib.Core.List.{List, [], ◌++◌, append-nil}
use Prim.Native.Nat.{ℕ, ◌≤◌, ◌<◌}
use native.Mathlib.Omega.{arith}
use lib.ListN.{length, length-append}
use Rattle.std.specs.Prelude.{None, Some, IfSome}
use Rattle.std.specs.declared.option.Option.{Option}
use Rattle.std.specs.Io.KnownBytes.{Consumes, Appends, IsAtEnd}
use Rattle.std.proofs.KnownBytes.{Consumes-nil, Consumes-trans, Appends-nil, Appends-trans}
use Rattle.supervisor.specs.Calls.{Parts}
use Rattle.responder.specs.Replay.{replay_bytes}
use Rattle.replay.specs.Feed.{Replays}
use Rattle.replay.proofs.Feeding.{replay-append}

-- nothing read, nothing written
pub replays-none : (i o : Option (List ℕ)) (p : Parts) → Replays i i o o p p []
unfolding replay_bytes
replays-none i o p = record { consumed = Consumes-nil i; written = Appends-nil o; leaves = refl }

-- the input's end, where nothing is read
pub replays-end : (i j o : Option (List ℕ)) (p : Parts) → Consumes i j [] → Replays i j o o p p []
unfolding replay_bytes
replays-end i j o p e = record { consumed = e; written = Appends-nil o; leaves = refl }

-- one run and then another
pub replays-more : {i j k o n m : Option (List ℕ)} {p q r : Parts} {xs ys : List ℕ}
    → Replays i j o n p q xs → Replays j k n m q r ys → Replays i k o m p r (xs ++ ys)
replays-more {i} {j} {k} {o} {n} {m} {p} {q} {r} {xs} {ys} a b =
    let e = replay-append p xs ys in
    record {
      consumed = Consumes-trans i j k xs ys a.consumed b.consumed;
      written = rw (e, ← a.leaves) (Appends-trans o n m _ _ a.written b.written);
      leaves = b.leaves ∙ rw (e, a.leaves);
    }

-- what a replay of all bytes of an input leaves
abbrev pub Replayed : Option (List ℕ) → Option (List ℕ) → Parts → Parts → List ℕ → Type 0
Replayed o m p q xs = Appends o m (replay_bytes [] p xs).taken × (q ≡ (replay_bytes [] p xs).parts)

-- the input is at its end
pub replayed-all : (i j o m : Option (List ℕ)) (p q : Parts) (bs : List ℕ) (most : ℕ) → Replays i j o m p q bs → IsAtEnd j
    → IfSome i (λ xs. length xs < most → Replayed o m p q xs)
replayed-all None j o m p q bs most a e = tt
replayed-all (Some xs) None o m p q bs most a e = absurd a.consumed
replayed-all (Some xs) (Some ys) o m p q bs most a e =
    let whole : xs ≡ bs = a.consumed ∙ ap (λ zs. bs ++ zs) e ∙ append-nil bs in
    λ short. rw whole (a.written, a.leaves)

-- more bytes were read than the input may have
pub replayed-over : (i j o m : Option (List ℕ)) (p q : Parts) (bs : List ℕ) (most : ℕ) → Replays i j o m p q bs → most ≤ length bs
    → IfSome i (λ xs. length xs < most → Replayed o m p q xs)
replayed-over None j o m p q bs most a h = tt
replayed-over (Some xs) None o m p q bs most a h = absurd a.consumed
replayed-over (Some xs) (Some ys) o m p q bs most a h =
    λ short. absurd (omega (arith, ap length a.consumed, length-append bs ys))
