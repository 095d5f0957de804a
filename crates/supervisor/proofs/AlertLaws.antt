-- Laws of a call that posts an alert: the stores that put it behind those that wait.
-- Assumes nothing.
use mathlib.Core.Path.{◌≡◌}
use mathlib.Core.List.{List, [], ◌∷◌, ◌++◌, append_assoc}
use Prim.Native.Nat.{ℕ, ◌+◌, ◌≤◌, ◌<◌}
use native.Mathlib.Omega.{arith}
use lib.ListN.{length, set, length-append, length-set}
use lib.Seq.{take-length}
use Rattle.octets.specs.Bytes.{bytes, overlay, put, copied}
use Rattle.octets.proofs.Numbers.{length-bytes, one_byte}
use Rattle.octets.proofs.Overlay.{length-overlay, length-put, length-copied, overlay-one, overlay-next, overlay-more, put-fits, copied-fits}
use Rattle.supervisor.specs.Limits.{most_alerts, longest_alert}
use Rattle.supervisor.specs.Layout.{registers_length, status_offset, alert_count_offset, alert_offset, alert_action_offset}
use Rattle.supervisor.specs.Layout.{alert_text_offset, status_of, alert_count}
use Rattle.supervisor.specs.Local.{set_bit}
use Rattle.supervisor.specs.Calls.{with_alert}

-- its length, action and text, each stored behind the other
slot : (at action : ℕ) (text r : List ℕ) → action < 256 → at + alert_text_offset + length text ≤ length r
    → copied text 0 (length text) (set (put at (bytes 2 (length text)) r) (at + alert_action_offset) action) (at + alert_text_offset)
    ≡ overlay at (bytes 2 (length text) ++ (bytes 1 action ++ text)) r
slot at action text r h l =
    let n = length text in
    let two = length-bytes 2 n in
    let head = bytes 2 n ++ action ∷ [] in
    let k : length head ≡ alert_text_offset = simp length-append (omega arith) in
    let m = rw two at (overlay-more at action (bytes 2 n) r (omega arith)) in
    let t : length (overlay at head r) ≡ length r = length-overlay at head r (omega arith) in
    rw (
      put-fits at (bytes 2 n) r (omega arith),
      m,
      copied-fits text 0 n (overlay at head r) (at + alert_text_offset) (omega arith) (omega arith),
      take-length,
      one_byte action h,
    )
    (rw (k, append_assoc) at (overlay-next at head text r (omega arith)))

pub length-slot : (r text : List ℕ) (at action : ℕ) {s t : List ℕ} → s ≡ put at (bytes 2 (length text)) r
    → t ≡ copied text 0 (length text) (set s (at + alert_action_offset) action) (at + alert_text_offset) → length t ≡ length r
length-slot r text at action f g = rw g (simp (length-copied, length-set) (rw f (length-put at (bytes 2 (length text)) r)))

-- the three, then the count, then the status
pub alert-put : (r text : List ℕ) {count action status : ℕ} {s t u : List ℕ} → registers_length ≤ length r → count ≡ alert_count r
    → count < most_alerts → length text ≤ longest_alert → action < 256 → s ≡ put (alert_offset count) (bytes 2 (length text)) r
    → t ≡ copied text 0 (length text) (set s (alert_offset count + alert_action_offset) action) (alert_offset count + alert_text_offset)
    → status ≡ set_bit (status_of r) 1 → u ≡ put status_offset (bytes 8 status) (set t alert_count_offset (count + 1))
    → u ≡ with_alert r action text
unfolding with_alert
alert-put r text {count} {action} {status} {t} long e few short byte f g h i =
    let n = length-slot r text _ _ f g in
    let k = length-bytes 8 status in
    let l : length (set t alert_count_offset (count + 1)) ≡ length r = simp length-set n in
    rw (
      i,
      put-fits status_offset (bytes 8 status) (set t alert_count_offset (count + 1)) (omega arith),
      overlay-one alert_count_offset (count + 1) t (omega arith),
      g,
      f,
      slot (alert_offset count) action text r byte (omega arith),
      h,
      ← e,
      one_byte (count + 1) (omega arith),
    )
