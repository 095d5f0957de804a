-- What is known of a supervisor fits its state: settings by the sets seen, factory data by the first answers, the last alert's reply.
-- Assumes nothing: these are definitions, and the statements that `Rightly` proves.
use mathlib.Core.Path.{◌≡◌}
use mathlib.Core.Bool.{cond, false}
use mathlib.Core.List.{List, [], ◌∷◌, ◌++◌}
use mathlib.Core.Logic.{◌⊎◌}
use mathlib.Core.Option.{Option, none, some}
use Prim.Native.Nat.{ℕ, ◌-◌, ◌<◌}
use lib.Dec.{eqb}
use lib.ListN.{length, get_or}
use Rattle.octets.specs.Bytes.{Each, Byte, bytes}
use Rattle.line.specs.Message.{Message}
use Rattle.supervisor.specs.Limits.{SettingsKey, passphrase_key, setting_count}
use Rattle.supervisor.specs.State.{Factory, Setting, Settings, setting, Retained, State, fresh}
use Rattle.supervisor.specs.Calls.{Parts}
use Rattle.responder.specs.Requests.{Reply, alert_data, item_of, inventoried, verdict}
use Rattle.saving.specs.Saving
use Rattle.supervisor_claims.specs.View.{view}
use Rattle.supervisor_claims.specs.Sound.{Sound}
use Rattle.supervisor_claims.specs.Replies.{after_table, reply_by}
use Rattle.tap.specs.Known.{SetSeen, KeyKnown, Known, Copy, key_known, newest_value, candidates, most_firsts, known_at_start, known_nothing}
use Rattle.tap.specs.Known.{known_restored, known_after}
use Rattle.tap.specs.Accused.{reply_accused}
use Rattle.tap.specs.Tap.{due_of, told}

-- sound parts hold the state
abbrev pub Held : State → Type 0
Held s = (p : Parts) × Sound p × (view p ≡ s)

-- ---- A settings key

-- one of the sets has the value
abbrev pub HasOne : List SetSeen → Option (List ℕ) → Type 0
HasOne [] v = ⊥
HasOne (x ∷ xs) v = (v ≡ some x.value) ⊎ HasOne xs v

abbrev pub AmongSets : Option (List SetSeen) → Option (List ℕ) → Type 0
AmongSets none v = Unit {0}
AmongSets (some xs) v = HasOne xs v

-- of the passphrase no value is kept
abbrev pub ValueFits : ℕ → List SetSeen → Option (List ℕ) → Type 0
ValueFits key xs v = eqb key passphrase_key ≡ false → v ≡ newest_value xs

abbrev pub SetsFit : ℕ → Option ℕ → List SetSeen → Setting → Type 0
SetsFit key none xs z = AmongSets (candidates xs) z.value
SetsFit key (some e) xs z = (z.edition ≡ e) × ValueFits key xs z.value

abbrev pub KeyFits : ℕ → KeyKnown → Setting → Type 0
KeyFits key x z = SetsFit key x.edition x.sets z

-- ---- The factory data

-- what is told of the factory data, by the slot of `slot_of`
abbrev pub factory_told : Factory → ℕ → List ℕ
factory_told f slot =
    cond (eqb slot 0) (bytes 1 f.bsu)
    (cond (eqb slot 1) (f.model ++ (bytes 4 f.revision ++ f.serial))
    (cond (eqb slot 2) (f.base ++ (bytes 2 f.count ++ bytes 1 f.stride))
    (cond (eqb slot 3) f.image_id
    (cond (eqb slot 4) (bytes 4 (length f.items) ++ bytes 4 0)
    (inventoried (item_of f.items (slot - 5)))))))

-- ---- All of it

pub record CopyFits (c : Copy) (r : Retained) : Type 0 where
  pub sequence : r.sequence ≡ c.sequence
  pub version : r.version ≡ c.version
  pub payload : alert_data r.alert ≡ c.payload

abbrev pub SomeCopyFits : Option Copy → Option Retained → Type 0
SomeCopyFits none r = Unit {0}
SomeCopyFits (some c) none = ⊥
SomeCopyFits (some c) (some r) = CopyFits c r

pub record Fits (k : Known) (f : Factory) (z : Settings) (r : Option Retained) : Type 0 where
  pub keys_long : length k.keys ≡ setting_count
  pub firsts_long : length k.firsts ≡ most_firsts
  pub keys : (key : ℕ) → SettingsKey key → KeyFits key (key_known k key) (setting z key)
  pub firsts : (slot : ℕ) → slot < most_firsts → (bs : List ℕ) → get_or k.firsts slot none ≡ some bs → bs ≡ factory_told f slot
  pub copy : SomeCopyFits k.copy r

abbrev pub FitsState : Known → State → Type 0
FitsState k s = Fits k s.factory s.settings s.retained

-- ---- What is proved of it

-- the message of a reply
abbrev pub message_of : Reply → Message
message_of r = record { version = r.version; sequence = r.sequence; command = r.command; payload = r.payload }

-- behind a start, and where nothing is known
abbrev pub FitsAtStart : Type 0
FitsAtStart = (f : Factory) → FitsState known_at_start (fresh f)

abbrev pub FitsNothing : Type 0
FitsNothing = (s : State) → FitsState known_nothing s

-- behind a restore that is accepted
abbrev pub FitsRestored : Type 0
FitsRestored = (k : Known) (s t : State) (image : List ℕ) → Held s → FitsState k s → Saving.restore s image ≡ Saving.left t
    → FitsState (known_restored k) t

-- behind a frame that is not empty
abbrev pub FitsBehind : Type 0
FitsBehind = (k : Known) (s : State) (image form : List ℕ) → Held s → Each Byte image → Each Byte form → FitsState k s
    → FitsState (known_after k (verdict form)) (after_table image s (verdict form))

-- its reply is accused of nothing, and what it tells fits
abbrev pub RepliesRightly : Type 0
RepliesRightly = (k : Known) (s : State) (image form : List ℕ) → Held s → Each Byte image → Each Byte form → FitsState k s
    → (r : Reply) → reply_by image s (verdict form) ≡ some r
    → let v = verdict form in
    (reply_accused (known_after k v) v (due_of k v) (message_of r) ≡ [])
    × FitsState (told v (message_of r) (known_after k v)) (after_table image s v)
