-- The state since the last 00: which bytes it holds, and what the 00 behind them gives.
-- Assumes nothing.
use mathlib.Core.Path.{◌≡◌, refl, ap, ◌∙◌}
use mathlib.Core.Bool.{false}
use mathlib.Core.List.{List, [], ◌∷◌}
use mathlib.Core.Option.{Option, none, some}
use Prim.Native.Nat.{ℕ, zero, suc, ◌+◌, ◌-◌, ◌≤◌, ◌<◌}
use native.Mathlib.Omega.{arith}
use lib.ListN.{length, length-drop, length-take}
use borrow.Author.Tests.{lt-ltb, le-ltb}
use Rattle.octets.specs.Bytes.{run, overlay, number}
use Rattle.octets.proofs.Conditions.{cond-by}
use Rattle.octets.proofs.Overlay.{run_take, length_run, length-overlay, overlay-part, overlay-before}
use Rattle.line.specs.Limits.{header_length, checksum_length, shortest_message, longest_data, longest_form}
use Rattle.line.specs.Judge.{wrong_length, payload_of, judge, judge_received, decoded_received}
use Rattle.line.specs.Cobs.{group_bytes, uncobs}
use Rattle.line.specs.ReaderLayout.{frame_offset, overlong, received_count, with_count, received_bytes, unpacked}
use Rattle.line.specs.Reader.{reader_length, received_of, empty, failed, verdict_report, frame_outcome, finish_form}
use Rattle.line.specs.Reader.{closed_state, finish, data_given_promise, part_of, data_promise}
use Rattle.line.proofs.State.{ready-valid, length-counted, count-counted, run-counted}
use Rattle.line.proofs.Judged.{fit_length}

-- ---- the bytes since the last 00

module _ (s : List ℕ) where
  pub received_none : longest_form < received_count s → received_of s ≡ none
  unfolding received_of
  received_none h = rw (lt-ltb longest_form (received_count s) h)

  pub received-some : received_count s ≤ longest_form → received_of s ≡ some (received_bytes s)
  unfolding received_of
  received-some h = rw (le-ltb longest_form (received_count s) h)

  pub received-nothing : received_count s ≡ 0 → received_of s ≡ some []
  unfolding received_bytes
  received-nothing e = rw (received-some (omega arith), e)

  pub length_kept : reader_length ≤ length s → received_count s ≤ longest_form → length (received_bytes s) ≡ received_count s
  unfolding received_bytes
  length_kept h l = length_run frame_offset (received_count s) s (omega arith)

-- ---- the 00 of a frame

judged-some : (form : List ℕ) → 0 < length form → judge_received (some form) ≡ some (judge form)
judged-some [] h = absurd (omega arith)
judged-some (b ∷ bs) h = refl

positive : (n : ℕ) → (n ≡ 0 → ⊥) → 0 < n
positive zero f = absurd (f refl)
positive (suc n) f = omega arith

module _ (s : List ℕ) where
  pub finish-empty : received_count s ≡ 0 → frame_outcome empty (with_count 0 s) ≡ finish s
  unfolding finish closed_state uncobs group_bytes unpacked
  finish-empty e = rw (received-nothing s e)

  pub finish-over : longest_form < received_count s → frame_outcome (failed 1 none) (with_count 0 s) ≡ finish s
  unfolding finish closed_state unpacked verdict_report
  finish-over h = rw (received_none s h)

  pub finish-form : (received_count s ≡ 0 → ⊥) → received_count s ≤ longest_form → reader_length ≤ length s
      → finish_form (run frame_offset (received_count s) (with_count 0 s)) (with_count 0 s) ≡ finish s
  unfolding finish closed_state finish_form received_bytes
  finish-form n h l =
      let k = length_kept s l h in
      let m = positive (received_count s) n in
      rw (run-counted 0 s (omega arith) (received_count s), received-some s h, judged-some (received_bytes s) (omega arith))

-- ---- the state that a 00 leaves

module _ (s : List ℕ) (h : reader_length ≤ length s) where
  unpacked-keeps : (form : Option (List ℕ)) → (length (unpacked form s) ≡ length s) × (received_count (unpacked form s) ≡ received_count s)
  unfolding unpacked received_count
  unpacked-keeps none = (refl, refl)
  unpacked-keeps (some xs) =
      cond-by (λ (x : List ℕ). (length x ≡ length s) × (number (run 0 2 x) ≡ number (run 0 2 s))) (wrong_length xs) _ _ (λ e. (refl, refl))
      (λ e.
      let l = fit_length xs e in
      (length-overlay frame_offset xs s (omega arith), ap number (overlay-before frame_offset 0 2 xs s (omega arith) (omega arith))))

  -- the data of a message, in its bytes
  pub data-unpacked : (xs : List ℕ) → received_count s ≤ overlong → wrong_length xs ≡ false
      → data_promise (overlay frame_offset xs s) (length (payload_of xs)) ≡ payload_of xs
  unfolding data_promise data_given_promise part_of unpacked
  data-unpacked xs k e =
      let n = length xs - shortest_message in
      let l = fit_length xs e in
      let u : (length (overlay frame_offset xs s) ≡ length s) × (received_count (overlay frame_offset xs s) ≡ received_count s) =
      rw e at (unpacked-keeps (some xs)) in
      let m : length (payload_of xs) ≡ n = simp (length-drop, length-take) (omega arith) in
      let t : header_length + n ≡ length xs - checksum_length = omega arith in
      rw (m, ready-valid (overlay frame_offset xs s) (omega arith, omega arith), le-ltb longest_data n (omega arith))
      (rw (overlay-part frame_offset header_length n xs s (omega arith) (omega arith), run_take header_length n xs, t))

pub finish-leaves : (s : List ℕ) → reader_length ≤ length s → (length (finish s).state ≡ length s) × (received_count (finish s).state ≡ 0)
unfolding finish closed_state
finish-leaves s h =
    let l = length-counted 0 s (omega arith) in
    let c = count-counted 0 s (omega arith) (omega arith) in
    let u = unpacked-keeps (with_count 0 s) (omega arith) (decoded_received (received_of s)) in
    (u.0 ∙ l, u.1 ∙ c)
