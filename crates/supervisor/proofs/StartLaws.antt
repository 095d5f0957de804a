-- The laws of start: the parts that it leaves, and what it answers.
-- Assumes nothing.
use mathlib.Core.Path.{◌≡◌, sym, ap, ◌∙◌}
use mathlib.Core.Bool.{true, ◌&&◌, and-eq-true_iff}
use mathlib.Core.List.{List, ◌++◌}
use Prim.Native.Nat.{ℕ, ◌+◌, ◌-◌, ◌≤◌}
use native.Mathlib.Omega.{arith}
use lib.Dec.{leb}
use lib.ListN.{length, length-append}
use lib.Seq.{take_all}
use borrow.Author.Tests.{leb-true, le-leb}
use Rattle.octets.specs.Bytes.{bytes, overlay, put, copied}
use Rattle.octets.proofs.Numbers.{length-bytes}
use Rattle.octets.proofs.Overlay.{length-overlay, overlay-again, overlay-next, overlay-swap, put-fits, copied-fits}
use Rattle.octets.proofs.Zeros.{zeros, zeros-add, length-zeros, cleared-fits}
use Rattle.line.specs.Reader
use Rattle.supervisor.specs.Layout
use Rattle.supervisor.specs.Local.{pong}
use Rattle.supervisor.specs.Valid.{good_start}
use Rattle.supervisor.specs.Calls.{Parts, parts, StartOutcome, long_enough, fresh_parts, start_outcome, start_promise}
use Rattle.std.specs.Prelude.{⊤, Result, Ok, Err}
use Rattle.refusals.specs.declared.Refusal.{Refusal}
use Rattle.refusals.specs.declared.Refusal.TheVariants as refusal

-- ---- the factory store and the registers

-- bytes put over the first of bytes
overlay-first : (at : ℕ) (xs ys zs s : List ℕ) → at + length (ys ++ zs) ≤ length s → length xs ≡ length ys
    → overlay at xs (overlay at (ys ++ zs) s) ≡ overlay at (xs ++ zs) s
overlay-first at xs ys zs s h e =
    let a = length-append ys zs in
    let l : length (overlay at ys s) ≡ length s = length-overlay at ys s (omega arith) in
    rw (
      ← overlay-next at ys zs s (omega arith),
      overlay-swap at (at + length ys) xs zs (overlay at ys s) (omega arith) (omega arith),
      overlay-again at ys xs s (omega arith) (sym e),
      ← e,
    )
    (overlay-next at xs zs s (omega arith))

-- a number over the first of n zeros
pub numbered : (k v n : ℕ) (s t u : List ℕ) → k ≤ n → n ≤ length s → t ≡ put 0 (zeros n) s → u ≡ put 0 (bytes k v) t
    → u ≡ overlay 0 (bytes k v ++ zeros (n - k)) s
numbered k v n s t u h l p q =
    let b = length-bytes k v in
    let o : length (overlay 0 (zeros n) s) ≡ length s = length-overlay 0 (zeros n) s (omega (arith, length-zeros n)) in
    let e : k + (n - k) ≡ n = omega arith in
    let z : zeros k ++ zeros (n - k) ≡ zeros n = rw e at (zeros-add k (n - k)) in
    rw (q, p, cleared-fits 0 s n (omega arith), put-fits 0 (bytes k v) (overlay 0 (zeros n) s) (omega arith), ← z)
    (overlay-first 0 (bytes k v) (zeros k) (zeros (n - k)) s (rw z (omega (arith, length-zeros n))) (b ∙ sym (length-zeros k)))

-- n, k and m bytes, one after the other
pub stored : (n k m : ℕ) (xs ys zs s t u v : List ℕ) → length xs ≡ n → length ys ≡ k → length zs ≡ m → n + k + m ≤ length s
    → t ≡ copied xs 0 n s 0 → u ≡ put n ys t → v ≡ copied zs 0 m u (n + k) → v ≡ overlay 0 (xs ++ ys ++ zs) s
stored n k m xs ys zs s t u v a b c h p q r =
    let e : 0 + length xs ≡ n = omega arith in
    let f : 0 + length (xs ++ ys) ≡ n + k = omega (arith, length-append xs ys) in
    let i : length (overlay 0 xs s) ≡ length s = length-overlay 0 xs s (omega arith) in
    let j : length (overlay 0 (xs ++ ys) s) ≡ length s = length-overlay 0 (xs ++ ys) s (omega arith) in
    rw (
      r,
      q,
      p,
      copied-fits xs 0 n s 0 (omega arith) (omega arith),
      take_all n xs (omega arith),
      put-fits n ys (overlay 0 xs s) (omega arith),
      rw e at (overlay-next 0 xs ys s (omega arith)),
      copied-fits zs 0 m (overlay 0 (xs ++ ys) s) (n + k) (omega arith) (omega arith),
      take_all m zs (omega arith),
    )
    (rw f at (overlay-next 0 (xs ++ ys) zs s (omega arith)))

-- ---- what start answers

-- every part has its published length
pub record LongEnough (p : Parts) : Type 0 where
  pub reader : Reader.reader_length ≤ length p.reader
  pub outbox : Layout.outbox_length ≤ length p.outbox
  pub factory : Layout.factory-length ≤ length p.factory
  pub settings : Layout.settings_length ≤ length p.settings
  pub registers : Layout.registers_length ≤ length p.registers

-- five lengths, each at least the published one
pub all-long : (reader outbox factory settings registers : ℕ)
    → (leb Reader.reader_length reader && (leb Layout.outbox_length outbox && (leb Layout.factory-length factory
    && (leb Layout.settings_length settings && leb Layout.registers_length registers)))) ≡ true
    → (Reader.reader_length ≤ reader) × (Layout.outbox_length ≤ outbox) × (Layout.factory-length ≤ factory)
    × (Layout.settings_length ≤ settings) × (Layout.registers_length ≤ registers)
all-long reader outbox factory settings registers h =
    let s = (and-eq-true_iff _ _).0 h in
    let t = (and-eq-true_iff _ _).0 s.1 in
    let u = (and-eq-true_iff _ _).0 t.1 in
    let v = (and-eq-true_iff _ _).0 u.1 in
    (leb-true _ _ s.0, leb-true _ _ t.0, leb-true _ _ u.0, leb-true _ _ v.0, leb-true _ _ v.1)

pub long-enough-is : (p : Parts) → long_enough p ≡ true → LongEnough p
unfolding long_enough
long-enough-is p e =
    omega (arith, all-long (length p.reader) (length p.outbox) (length p.factory) (length p.settings) (length p.registers) e)

pub is-long-enough : (p : Parts) → LongEnough p → long_enough p ≡ true
unfolding long_enough
is-long-enough p r =
    rw (le-leb _ _ r.reader, le-leb _ _ r.outbox, le-leb _ _ r.factory, le-leb _ _ r.settings, le-leb _ _ r.registers)

-- an answer with the parts as they are
abbrev kept : Result ⊤ Refusal → Parts → StartOutcome
kept a p = start_outcome a (parts p.reader p.outbox p.factory p.settings p.registers)

-- the reader's part
reader-begun : (s t : List ℕ) (a : Result ⊤ Refusal) → Reader.reader_length ≤ length s
    → Reader.reader_start_outcome a t ≡ Reader.reader_start_promise s → t ≡ Reader.reader_fresh s
unfolding Reader.reader_start_promise
reader-begun s t a h e = ap (λ (o : Reader.ReaderStartOutcome). o.state) (rw (le-leb _ _ h) at e)

-- it does not refuse bytes that are long enough
pub reader-not-refused : (s t : List ℕ) (a : Result ⊤ Refusal) (why : Refusal) → Reader.reader_length ≤ length s
    → Reader.reader_start_outcome a t ≡ Reader.reader_start_promise s → a ≡ Err why → ⊥
unfolding Reader.reader_start_promise
reader-not-refused s t a why h e is =
    let f = rw (is, le-leb _ _ h) at (ap (λ (o : Reader.ReaderStartOutcome). o.refusal) e) in cc

-- each part as it was set
pub begun : (d : List ℕ) (p q : Parts) (a : Result ⊤ Refusal) → LongEnough p → good_start d ≡ true
    → Reader.reader_start_outcome a q.reader ≡ Reader.reader_start_promise p.reader
    → q.outbox ≡ put 0 (zeros Layout.outbox_length) p.outbox
    → q.factory ≡ overlay 0 (d ++ bytes 4 0 ++ pong) p.factory
    → q.settings ≡ put 0 (zeros Layout.settings_length) p.settings
    → q.registers ≡ overlay 0 (bytes 8 1 ++ zeros (Layout.registers_length - 8)) p.registers
    → kept (Ok tt) q ≡ start_promise d p
unfolding start_promise fresh_parts
begun d p q a r e reader outbox factory settings registers =
    let x = reader-begun p.reader q.reader a r.reader reader in
    let y = outbox ∙ cleared-fits 0 p.outbox Layout.outbox_length (omega (arith, r.outbox)) in
    let z = settings ∙ cleared-fits 0 p.settings Layout.settings_length (omega (arith, r.settings)) in
    rw (is-long-enough p r, e, x, y, factory, z, registers)
