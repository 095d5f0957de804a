-- What the frames seen tell of the supervisor: its settings by the sets, its first answers of factory data, the last alert's reply.
-- Assumes nothing: these are definitions.
use Rattle.std.specs.Prelude.{Bool, true, false, cond, ◌&&◌, ◌||◌, List, [], ◌∷◌, ℕ, suc, ◌+◌, ◌-◌, ltb, eqb, length, take, drop, get_or}
use Rattle.std.specs.Prelude.{set, replicate}
use Rattle.std.proofs.Math.Option.{Option, none, some, map}
use Rattle.octets.specs.Bytes.{number_at, equal}
use Rattle.line.specs.Message.{Message}
use Rattle.supervisor.specs.Limits.{most_items, highest_key, first_setting, setting_count, passphrase_key, last_edition}
use Rattle.supervisor.specs.Local.{Found, fitted}
use Rattle.responder.specs.Commands.{Command, command_of_number}
use Rattle.responder.specs.Requests.{Verdict, failure, good, wrong_value_length}

-- ---- A key of the settings store

-- a set that the table takes: its number and value, and whether an answer 0 to it was judged
pub record SetSeen : Type 0 where
  pub number : ℕ
  pub value : List ℕ
  pub answered : Bool

-- one whose answer was judged, and four later ones
abbrev pub most_sets : ℕ
most_sets = 5

-- the edition, where all sets since the start were seen; and the last sets, the newest first
pub record KeyKnown : Type 0 where
  pub edition : Option ℕ
  pub sets : List SetSeen

abbrev pub key_unset : KeyKnown
key_unset = record { edition = some 0; sets = [] }

abbrev pub key_unknown : KeyKnown
key_unknown = record { edition = none; sets = [] }

-- of the passphrase no value is kept
abbrev pub kept_sets : ℕ → List SetSeen → List SetSeen
kept_sets key xs = cond (eqb key passphrase_key) [] (take most_sets xs)

abbrev pub set_seen : ℕ → List ℕ → SetSeen
set_seen number v = record { number = number; value = v; answered = false }

-- a set of a settings key with an allowed length: stored, unless the edition is the last; where that is not known, it is kept as one that
-- may have been stored
abbrev pub after_set_by : ℕ → SetSeen → List SetSeen → Option ℕ → KeyKnown
after_set_by key x xs none = record { edition = none; sets = kept_sets key (x ∷ xs) }
after_set_by key x xs (some e) =
    cond (eqb e last_edition) (record { edition = some e; sets = xs }) (record { edition = some (suc e); sets = kept_sets key (x ∷ xs) })

-- and its result: 0 or 4 where the edition is not known
abbrev pub result_by : Option ℕ → Option ℕ
result_by none = none
result_by (some e) = some (cond (eqb e last_edition) 4 0)

-- the newest set's answer was judged: with 0 it was stored, else it was not
abbrev pub confirmed : SetSeen → SetSeen
confirmed x = record { number = x.number; value = x.value; answered = true }

abbrev pub newest_answered : ℕ → List SetSeen → List SetSeen
newest_answered result [] = []
newest_answered result (x ∷ xs) = cond (eqb result 0) (confirmed x ∷ xs) xs

unfoldable pub after_set_answer : ℕ → KeyKnown → KeyKnown
after_set_answer result k = record { edition = k.edition; sets = by k.edition }
  where
    by : Option ℕ → List SetSeen
    by none = newest_answered result k.sets
    by (some e) = k.sets

-- ---- What a lookup of it may answer

-- the newest set whose answer 0 was judged, and those behind it; none where there is no such set
unfoldable pub candidates : List SetSeen → Option (List SetSeen)
candidates [] = none
candidates (x ∷ xs) = cond x.answered (some (x ∷ [])) (map (λ (ys : List SetSeen). x ∷ ys) (candidates xs))

abbrev pub newest_value : List SetSeen → Option (List ℕ)
newest_value [] = none
newest_value (x ∷ xs) = some x.value

-- whether a result and a value are those of a lookup
abbrev pub is_found : ℕ → List ℕ → Found → Bool
is_found result value f = eqb result f.result && equal value f.value

unfoldable pub is_one_of : ℕ → ℕ → List ℕ → List SetSeen → Bool
is_one_of most result value [] = false
is_one_of most result value (x ∷ xs) = is_found result value (fitted most 0 (some x.value)) || is_one_of most result value xs

-- no value, too long, or some value
abbrev pub is_any_found : ℕ → Bool
is_any_found result = eqb result 0 || (eqb result 2 || eqb result 3)

abbrev pub is_among_sets : ℕ → ℕ → List ℕ → Option (List SetSeen) → Bool
is_among_sets most result value none = is_any_found result
is_among_sets most result value (some xs) = is_one_of most result value xs

abbrev pub may_find_by : ℕ → ℕ → List ℕ → List SetSeen → Option ℕ → Bool
may_find_by most result value xs none = is_among_sets most result value (candidates xs)
may_find_by most result value xs (some e) = is_found result value (fitted most 0 (newest_value xs))

unfoldable pub may_find : KeyKnown → ℕ → ℕ → List ℕ → Bool
may_find k most result value = may_find_by most result value k.sets k.edition

-- ---- Factory data: what was first answered, by what was asked

-- a BSU, an identity, an address plan, keys 1 and 2, and each inventory item
abbrev pub most_firsts : ℕ
most_firsts = 5 + most_items

abbrev pub key_slot : ℕ → Option ℕ
key_slot key = cond (eqb key 1) (some 3) (cond (eqb key 2) (some 4) none)

abbrev pub slot_by : Option Command → List ℕ → Option ℕ
slot_by none bs = none
slot_by (some Command.bsu) bs = some 0
slot_by (some Command.identity) bs = some 1
slot_by (some Command.mac) bs = some 2
slot_by (some Command.key_lookup) bs = key_slot (number_at 1 bs 0)
slot_by (some Command.inventory) bs = cond (ltb (number_at 4 bs 0) most_items) (some (5 + number_at 4 bs 0)) none
slot_by (some Command.reboot) bs = none
slot_by (some Command.power-off) bs = none
slot_by (some Command.boot-failure) bs = none
slot_by (some Command.panic) bs = none
slot_by (some Command.status) bs = none
slot_by (some Command.start-acknowledged) bs = none
slot_by (some Command.alert) bs = none
slot_by (some Command.image_block) bs = none
slot_by (some Command.key_set) bs = none

unfoldable pub slot_of : Message → Option ℕ
slot_of m = slot_by (command_of_number m.command) m.payload

-- ---- All of it

-- an alert's reply: the request's sequence, and the reply's version and data
pub record Copy : Type 0 where
  pub sequence : ℕ
  pub version : ℕ
  pub payload : List ℕ

pub record Known : Type 0 where
  -- from the first settings key on
  pub keys : List KeyKnown
  pub firsts : List (Option (List ℕ))
  pub copy : Option Copy

abbrev pub key_known : Known → ℕ → KeyKnown
key_known k key = get_or k.keys (key - first_setting) key_unknown

abbrev pub with_key : Known → ℕ → KeyKnown → Known
with_key k key x = record { keys = set k.keys (key - first_setting) x; firsts = k.firsts; copy = k.copy }

abbrev pub with_first : Known → ℕ → List ℕ → Known
with_first k slot bs = record { keys = k.keys; firsts = set k.firsts slot (some bs); copy = k.copy }

abbrev pub with_copy : Known → Option Copy → Known
with_copy k c = record { keys = k.keys; firsts = k.firsts; copy = c }

abbrev pub no_firsts : List (Option (List ℕ))
no_firsts = replicate most_firsts none

-- behind a start, and where nothing is known
abbrev pub known_at_start : Known
known_at_start = record { keys = replicate setting_count key_unset; firsts = no_firsts; copy = none }

abbrev pub known_nothing : Known
known_nothing = record { keys = replicate setting_count key_unknown; firsts = no_firsts; copy = none }

-- behind a restore, which leaves the passphrase, the factory data and the retained reply
unfoldable pub known_restored : Known → Known
known_restored k = record {
  keys = key_unknown ∷ key_unknown ∷ key_unknown ∷ key_known k passphrase_key ∷ [];
  firsts = k.firsts;
  copy = k.copy;
}

-- ---- What a request changes of it

-- whether the table takes a set of this key with so many bytes: then it is stored, unless the edition is the last
abbrev pub is_taken_set : ℕ → ℕ → Bool
is_taken_set key n = cond (ltb highest_key key) false (cond (ltb key first_setting) false (cond (wrong_value_length key n) false true))

unfoldable pub known_after_set : Known → ℕ → List ℕ → Known
known_after_set k sequence bs =
    let key = number_at 1 bs 0 in
    let v = drop 1 bs in
    let x = key_known k key in
    cond (is_taken_set key (length v)) (with_key k key (after_set_by key (set_seen sequence v) x.sets x.edition)) k

-- the table's result of a set; none where it is 0 or 4
unfoldable pub result_due : Known → List ℕ → Option ℕ
result_due k bs =
    let key = number_at 1 bs 0 in
    cond (ltb highest_key key) (some 1)
    (cond (ltb key first_setting) (some 2)
    (cond (wrong_value_length key (length (drop 1 bs))) (some 3)
    (result_by (key_known k key).edition)))

-- an alert request under another number replaces the retained reply
abbrev pub copy_after_alert : ℕ → Option Copy → Option Copy
copy_after_alert sequence none = none
copy_after_alert sequence (some c) = cond (eqb c.sequence sequence) (some c) none

abbrev pub known_after_by : Option Command → Known → Message → Known
known_after_by none k m = k
known_after_by (some Command.reboot) k m = with_copy k none
known_after_by (some Command.power-off) k m = with_copy k none
known_after_by (some Command.alert) k m = with_copy k (copy_after_alert m.sequence k.copy)
known_after_by (some Command.key_set) k m = known_after_set k m.sequence m.payload
known_after_by (some Command.bsu) k m = k
known_after_by (some Command.identity) k m = k
known_after_by (some Command.mac) k m = k
known_after_by (some Command.boot-failure) k m = k
known_after_by (some Command.panic) k m = k
known_after_by (some Command.status) k m = k
known_after_by (some Command.start-acknowledged) k m = k
known_after_by (some Command.image_block) k m = k
known_after_by (some Command.key_lookup) k m = k
known_after_by (some Command.inventory) k m = k

-- a failed frame changes nothing
unfoldable pub known_after : Known → Verdict → Known
known_after k (failure reason version sequence) = k
known_after k (good m) = known_after_by (command_of_number m.command) k m
