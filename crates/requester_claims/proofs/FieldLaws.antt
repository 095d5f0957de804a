-- What the main processor's part holds once its fields are stored: the state, and that it stays valid.
-- Assumes nothing.
use mathlib.Core.Path.{◌≡◌, sym, ap, ◌∙◌}
use mathlib.Core.Bool.{true, cond, not, ◌||◌}
use mathlib.Core.List.{List, [], ◌∷◌, ◌++◌}
use mathlib.Core.Option.{Option, none, some}
use Prim.Native.Nat.{ℕ, ◌≤◌}
use native.Mathlib.Omega.{arith}
use lib.Dec.{eqb}
use lib.ListN.{length}
use lib.Seq.{take-length}
use Rattle.octets.specs.Bytes.{number, bytes, run, overlay}
use Rattle.octets.proofs.Numbers.{number-bytes}
use Rattle.octets.proofs.Overlay.{length-overlay, overlay-inside, overlay-part}
use Rattle.octets.proofs.SameBytes.{Same, same-within, number_same, same-before, same_after}
use Rattle.line.specs.Limits.{longest_data}
use Rattle.requester.specs.Limits.{last_number}
use Rattle.requester.specs.State.{main_state}
use Rattle.requester.specs.Requester.{stays_out}
use Rattle.requester.specs.Layout
use Rattle.requester.specs.Calls.{progressed}
use Rattle.requester.proofs.ValidLaws.{RequesterValid}
use Rattle.requester_claims.specs.View.{kept_request_of, held}

-- the number of one byte
number-byte : (v : ℕ) → number (v ∷ []) ≡ v
unfolding number
number-byte v = omega arith

-- the request kept lies behind the first fields
module _ {r s : List ℕ} (same : Same Layout.command_offset Layout.requester_length r s) (size : Layout.kept_length r ≤ longest_data) where
  command-same : Layout.kept_command s ≡ Layout.kept_command r
  command-same = number_same same 1 Layout.command_offset (omega arith)

  length-same : Layout.kept_length s ≡ Layout.kept_length r
  length-same = number_same same 2 Layout.length_offset (omega arith)

  request-same : Layout.kept_request s ≡ Layout.kept_request r
  unfolding Layout.kept_request
  request-same = rw (command-same, length-same, same.runs Layout.kept_data_offset (Layout.kept_length r) (omega arith))

outstanding-same : (r s : List ℕ) → Layout.recovery_of s ≡ Layout.recovery_of r → Layout.kept_flag s ≡ Layout.kept_flag r
    → Layout.is_outstanding s ≡ Layout.is_outstanding r
unfolding Layout.is_outstanding
outstanding-same r s e f = rw (e, f)

-- ---- the first fields

module _ (n t u k : ℕ) (r : List ℕ) (v : RequesterValid r) where
  abbrev fields : List ℕ
  fields = progressed n t u k r

  module _ (small : n ≤ last_number) where
    pub progressed-number : Layout.newest_number fields ≡ n
    unfolding progressed bytes
    progressed-number =
        ap number (overlay-part 0 0 8 (bytes 8 n ++ t ∷ u ∷ k ∷ []) r (omega arith) (omega arith)) ∙ number-bytes 8 n (omega arith)

  pub progressed-recovery : Layout.recovery_of fields ≡ t
  unfolding progressed bytes
  progressed-recovery = ap number (overlay-part 0 8 1 (bytes 8 n ++ t ∷ u ∷ k ∷ []) r (omega arith) (omega arith)) ∙ number-byte t

  pub progressed-unsent : Layout.unsent_of fields ≡ u
  unfolding progressed bytes
  progressed-unsent = ap number (overlay-part 0 9 1 (bytes 8 n ++ t ∷ u ∷ k ∷ []) r (omega arith) (omega arith)) ∙ number-byte u

  pub progressed-kept : Layout.kept_flag fields ≡ k
  unfolding progressed bytes
  progressed-kept = ap number (overlay-part 0 10 1 (bytes 8 n ++ t ∷ u ∷ k ∷ []) r (omega arith) (omega arith)) ∙ number-byte k

  progressed-same : Same Layout.command_offset Layout.requester_length r fields
  unfolding progressed bytes
  progressed-same = same_after 0 (bytes 8 n ++ t ∷ u ∷ k ∷ []) r (omega arith) (omega arith)

  pub progressed-long : length fields ≡ length r
  unfolding progressed bytes
  progressed-long = length-overlay 0 (bytes 8 n ++ t ∷ u ∷ k ∷ []) r (omega (arith, v.long))

  -- what they hold, with the request kept where there is one
  module _ (small : n ≤ last_number) where
    pub progressed-held : (bs : Option (List ℕ))
        → held fields bs ≡ main_state n (cond (eqb k 1) (some (Layout.kept_request r)) none) (Layout.step_at t) (eqb u 1) bs
    unfolding kept_request_of
    progressed-held bs =
        rw (progressed-number small, progressed-recovery, progressed-unsent, progressed-kept, request-same progressed-same v.size)

    progressed-outstanding : Layout.is_outstanding fields ≡ (not (eqb t 0) || eqb k 1)
    unfolding Layout.is_outstanding
    progressed-outstanding = rw (progressed-recovery, progressed-kept)

    pub progressed-valid : t ≤ 3 → u ≤ 1 → k ≤ 1 → ((not (eqb t 0) || eqb k 1) ≡ true → 1 ≤ n) → RequesterValid fields
    progressed-valid a b c o =
        let e = progressed-number small in
        let f = progressed-recovery in
        let g = progressed-unsent in
        let h = progressed-kept in
        let i = length-same progressed-same v.size in
        record {
          long = omega (arith, progressed-long, v.long);
          number = omega arith;
          recovery = omega arith;
          unsent = omega arith;
          kept = omega arith;
          size = omega (arith, v.size);
          command = rw (command-same progressed-same v.size) v.command;
          numbered = λ x. rw e (o (sym progressed-outstanding ∙ x));
        }

-- ---- whether the frame is to go out

module _ (u : ℕ) (r : List ℕ) (v : RequesterValid r) where
  abbrev flagged : List ℕ
  flagged = overlay Layout.unsent_offset (u ∷ []) r

  before : Same 0 Layout.unsent_offset r flagged
  before = same-before Layout.unsent_offset (u ∷ []) r (omega (arith, v.long)) (omega arith)

  after : Same Layout.kept_offset Layout.requester_length r flagged
  after = same_after Layout.unsent_offset (u ∷ []) r (omega (arith, v.long)) (omega arith)

  flagged-unsent : Layout.unsent_of flagged ≡ u
  flagged-unsent = ap number (overlay-inside Layout.unsent_offset (u ∷ []) r (omega (arith, v.long))) ∙ number-byte u

  pub flagged-held : (bs : Option (List ℕ))
      → held flagged bs ≡ main_state (Layout.newest_number r) (kept_request_of r) (Layout.recovery_step r) (eqb u 1) bs
  unfolding kept_request_of
  flagged-held bs =
      rw (
        number_same before 8 Layout.number_offset (omega arith),
        number_same before 1 Layout.recovery_offset (omega arith),
        flagged-unsent,
        number_same after 1 Layout.kept_offset (omega arith),
        request-same (same-within after (omega arith)) v.size,
      )

  pub flagged-long : length flagged ≡ length r
  flagged-long = length-overlay Layout.unsent_offset (u ∷ []) r (omega (arith, v.long))

  pub flagged-valid : u ≤ 1 → RequesterValid flagged
  flagged-valid h =
      let a = number_same before 8 Layout.number_offset (omega arith) in
      let b = number_same before 1 Layout.recovery_offset (omega arith) in
      let c = flagged-unsent in
      let d = number_same after 1 Layout.kept_offset (omega arith) in
      let e = length-same (same-within after (omega arith)) v.size in
      record {
        long = omega (arith, flagged-long, v.long);
        number = omega (arith, v.number);
        recovery = omega (arith, v.recovery);
        unsent = omega arith;
        kept = omega (arith, v.kept);
        size = omega (arith, v.size);
        command = rw (command-same (same-within after (omega arith)) v.size) v.command;
        numbered = λ o. rw a (v.numbered (sym (outstanding-same r flagged b d) ∙ o));
      }

-- ---- a request behind the first fields

module _ (command : ℕ) (d r : List ℕ) (v : RequesterValid r) (l : length d ≤ longest_data) where
  abbrev asked : List ℕ
  asked = overlay Layout.command_offset (command ∷ bytes 2 (length d) ++ d) r

  ahead : Same 0 Layout.command_offset r asked
  ahead = same-before Layout.command_offset (command ∷ bytes 2 (length d) ++ d) r (omega (arith, v.long)) (omega arith)

  asked-command : Layout.kept_command asked ≡ command
  unfolding bytes
  asked-command =
      ap number (overlay-part Layout.command_offset 0 1 (command ∷ bytes 2 (length d) ++ d) r (omega (arith, v.long)) (omega arith))
      ∙ number-byte command

  asked-length : Layout.kept_length asked ≡ length d
  unfolding bytes
  asked-length =
      ap number (overlay-part Layout.command_offset 1 2 (command ∷ bytes 2 (length d) ++ d) r (omega (arith, v.long)) (omega arith))
      ∙ number-bytes 2 (length d) (omega arith)

  asked-data : run Layout.kept_data_offset (length d) asked ≡ d
  unfolding bytes
  asked-data =
      overlay-part Layout.command_offset 3 (length d) (command ∷ bytes 2 (length d) ++ d) r (omega (arith, v.long)) (omega arith)
      ∙ take-length d

  pub asked-long : length asked ≡ length r
  unfolding bytes
  asked-long = length-overlay Layout.command_offset (command ∷ bytes 2 (length d) ++ d) r (omega (arith, v.long))

  pub asked-held : (bs : Option (List ℕ))
      → held asked bs
      ≡ main_state (Layout.newest_number r) (cond (Layout.is_kept r) (some (record { command = command; payload = d })) none)
      (Layout.recovery_step r) (eqb (Layout.unsent_of r) 1) bs
  unfolding kept_request_of Layout.kept_request
  asked-held bs =
      rw (
        number_same ahead 8 Layout.number_offset (omega arith),
        number_same ahead 1 Layout.recovery_offset (omega arith),
        number_same ahead 1 Layout.unsent_offset (omega arith),
        number_same ahead 1 Layout.kept_offset (omega arith),
        asked-command,
        asked-length,
        asked-data,
      )

  pub asked-valid : stays_out command ≡ true → RequesterValid asked
  asked-valid s =
      let a = number_same ahead 8 Layout.number_offset (omega arith) in
      let b = number_same ahead 1 Layout.recovery_offset (omega arith) in
      let c = number_same ahead 1 Layout.unsent_offset (omega arith) in
      let e = number_same ahead 1 Layout.kept_offset (omega arith) in
      let f = asked-length in
      record {
        long = omega (arith, asked-long, v.long);
        number = omega (arith, v.number);
        recovery = omega (arith, v.recovery);
        unsent = omega (arith, v.unsent);
        kept = omega (arith, v.kept);
        size = omega arith;
        command = rw asked-command s;
        numbered = λ o. rw a (v.numbered (sym (outstanding-same r asked b e) ∙ o));
      }
