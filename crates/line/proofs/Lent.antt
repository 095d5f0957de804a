-- A state of which a call is lent the first bytes: what it does to them is what it does to the whole state.
-- Assumes nothing.
use mathlib.Core.Path.{◌≡◌, refl, ap}
use mathlib.Core.List.{List, [], ◌∷◌, ◌++◌}
use mathlib.Core.Option.{Option, none, some}
use Prim.Native.Nat.{ℕ, ◌+◌, ◌≤◌}
use native.Mathlib.Omega.{arith}
use lib.Dec.{ltb}
use lib.ListN.{length, length-append}
use borrow.Author.Tests.{ltb-true, ltb-false, le-leb}
use Rattle.octets.specs.Bytes.{bytes, run}
use Rattle.octets.proofs.Numbers.{length-bytes}
use Rattle.octets.proofs.Conditions.{cond-by, cond_both, cond_map}
use Rattle.octets.proofs.Overlay.{length-overlay, overlay-append, run-append}
use Rattle.octets.proofs.Zeros.{zeros, length-zeros}
use Rattle.line.specs.Limits.{longest_data, longest_form}
use Rattle.line.specs.Judge.{wrong_length, decoded_received}
use Rattle.line.specs.ReaderLayout.{frame_offset, overlong, received_count, with_count, received_bytes, unpacked, data_offset}
use Rattle.line.specs.Reader.{reader_length, received_of, valid_reader, reader_fresh, pushed, FrameOutcome, frame_outcome, closed_state}
use Rattle.line.specs.Reader.{finish, tail_promise, data_given_promise, part_of, data_promise}
use Rattle.line.proofs.Judged.{fit_length}
use Rattle.line.proofs.State.{length-counted}

-- ---- a state in two parts

-- what a 00 gives, with bytes behind the state
abbrev behind : List ℕ → FrameOutcome → FrameOutcome
behind u x = frame_outcome x.answer (x.state ++ u)

module _ (t u : List ℕ) (h : reader_length ≤ length t) where
  count-append : received_count (t ++ u) ≡ received_count t
  unfolding received_count
  count-append = rw (run-append t u 0 2 (omega arith))

  counted-append : (n : ℕ) → with_count n (t ++ u) ≡ with_count n t ++ u
  unfolding with_count
  counted-append n = let l = length-bytes 2 n in overlay-append t u 0 (bytes 2 n) (omega arith)

  pub received-append : received_of (t ++ u) ≡ received_of t
  unfolding received_of received_bytes
  received-append =
      let n = received_count t in
      rw count-append
      (cond_both (λ x y. x ≡ y) (ltb longest_form n) (λ e. refl) (λ e.
      let l = ltb-false longest_form n e in
      ap some (run-append t u frame_offset n (omega arith))))

  pub fresh-append : reader_fresh (t ++ u) ≡ reader_fresh t ++ u
  unfolding reader_fresh
  fresh-append = overlay-append t u 0 (zeros reader_length) (rw (length-zeros reader_length) h)

  pub valid-append : valid_reader (t ++ u) ≡ valid_reader t
  unfolding valid_reader
  valid-append =
      rw (count-append, le-leb reader_length (length t) h, le-leb reader_length (length (t ++ u)) (simp length-append (omega arith)))

  pub tail-append : tail_promise (t ++ u) ≡ tail_promise t
  unfolding tail_promise
  tail-append = rw (valid-append, received-append)

  pub data_of-append : (n : ℕ) → data_promise (t ++ u) n ≡ data_promise t n
  unfolding data_promise data_given_promise part_of
  data_of-append n =
      rw valid-append
      (cond-by Same (valid_reader t) _ _
      (λ v. cond-by Same (ltb longest_data n) _ _ (λ e. refl) (λ e.
      let k = ltb-false longest_data n e in
      run-append t u data_offset n (omega arith)))
      (λ v. refl))
    where
      Same : Option ℕ → Type 0
      Same o = part_of o (run data_offset n (t ++ u)) ≡ part_of o (run data_offset n t)

  unpacked-append : (form : Option (List ℕ)) → unpacked form (t ++ u) ≡ unpacked form t ++ u
  unfolding unpacked
  unpacked-append none = refl
  unpacked-append (some xs) =
      cond_map (λ (x : List ℕ). x ++ u) (wrong_length xs) (λ e. refl) (λ e.
      let l = fit_length xs e in
      overlay-append t u frame_offset xs (omega arith))

module _ (t u : List ℕ) (h : reader_length ≤ length t) where
  pub pushed-append : (b : ℕ) → pushed (t ++ u) b ≡ pushed t b ++ u
  unfolding pushed
  pushed-append b =
      rw (count-append t u h)
      (cond_map (λ (x : List ℕ). x ++ u) (ltb (received_count t) longest_form)
      (λ e.
      let k = ltb-true (received_count t) longest_form e in
      let l = length-overlay (frame_offset + received_count t) (b ∷ []) t (omega arith) in
      rw (overlay-append t u (frame_offset + received_count t) (b ∷ []) (omega arith))
      (counted-append _ u (omega arith) (received_count t + 1)))
      (λ e. counted-append t u h overlong))

  pub finish-append : finish (t ++ u) ≡ behind u (finish t)
  unfolding finish closed_state
  finish-append =
      let l : length (with_count 0 t) ≡ length t = length-counted 0 t (omega arith) in
      rw (
        received-append t u h,
        counted-append t u h 0,
        unpacked-append (with_count 0 t) u (omega arith) (decoded_received (received_of t)),
      )
