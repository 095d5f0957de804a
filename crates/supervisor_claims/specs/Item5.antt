-- Document 02's item 5: every stored setting carries an edition that counts its successful sets
-- since start, and a version 2 lookup hands it out.
-- Assumes nothing: these are definitions and statements.
use Rattle.std.specs.Prelude.{◌≡◌, List, [], ◌∷◌, ◌++◌, ◌⊎◌, ℕ, ◌+◌, ◌≤◌, ◌<◌, length}
use Rattle.std.proofs.Math.Option.{Option, some}
use Rattle.line.specs.Numbers.{second_version}
use Rattle.line.specs.Message.{Message}
use Rattle.line.specs.Judge as Line
use Rattle.line.specs.Judge.{judge}
use Rattle.supervisor.specs.State.{Settings, Retained, State}
use Rattle.supervisor.specs.Local
use Rattle.supervisor.specs.Calls
use Rattle.supervisor.specs.Calls.{Parts}
use Rattle.responder.specs.Requests.{failure, verdict, ReplyContent, store_value, carry_out}
use Rattle.supervisor_claims.specs.View.{view}
use Rattle.supervisor_claims.specs.Sound.{Valid}
use Rattle.supervisor_claims.specs.Histories.{Made, made, FromStart, AfterCalls}
use Rattle.supervisor_claims.specs.FrameHistory.{RepliedWith, OnRequest}
use Rattle.supervisor_claims.specs.LastSet.{successful, origin_behind, lookup_message, SetAnswered}
use Rattle.supervisor_claims.specs.SameEdition.{edition_reply, SameEdition, SameEditionSameList, ReadsLeave}
use Rattle.supervisor_claims.specs.Demand2.{ValueLastSet, SuccessfulExactly}

abbrev pub ListEditionAnswered : List Made → Parts → Type 0
ListEditionAnswered ms q = (n most : ℕ) → most < 65536
    → OnRequest ms (lookup_message second_version n 5 most) (λ bs c. let x = origin_behind 5 ms bs in
    (vs : List (List ℕ)) (v : List ℕ) → successful x.setting.edition 5 x.requests ≡ vs ++ (v ∷ []) → length v ≤ most
    → RepliedWith q (made q c) (edition_reply n (x.setting.edition + (length vs + 1)) v))

abbrev pub EditionMeant : Type 0
EditionMeant = (p : Parts) → Valid p → (key : ℕ) → let e = Local.edition (view p) key in
    Calls.edition_promise p.factory p.settings key ≡ Calls.EditionReport.result e.result e.edition

abbrev pub StoresNothing : Type 0
StoresNothing = (z : Settings) (k : ℕ) (v : List ℕ) → ((store_value z k v).result ≡ 0 → ⊥) → (store_value z k v).settings ≡ z

abbrev pub FactoryEdition : Type 0
FactoryEdition = (s : State) (k : ℕ) → k < 3 → (Local.entry_of s k).edition ≡ 0

-- the retained reply that is sent again, as first written
pub record SentAgain (s : State) (m : Message) (version : ℕ) : Type 0 where
  pub kept : Retained
  pub retained : s.retained ≡ some kept
  pub number : kept.sequence ≡ m.sequence
  pub written : version ≡ kept.version

abbrev pub ReplyVersion : Type 0
ReplyVersion = (image : List ℕ) (s : State) (m : Message) (r : ReplyContent) → (carry_out image s m).reply ≡ some r
    → (r.version ≡ m.version) ⊎ SentAgain s m r.version

abbrev pub FailureVersion : Type 0
FailureVersion = (f : List ℕ) (reason version : ℕ) (sequence : Option ℕ) → verdict f ≡ failure reason version sequence
    → (reason ≤ 5 → version ≡ 1) × ((m : Message) → judge f ≡ Line.good m → 5 < reason → version ≡ m.version)

pub record SupervisorItem5 : Type 0 where
  -- over any calls, the edition of a settings key counts its successful sets since start, on from what a later restore left
  pub value_last_set : AfterCalls ValueLastSet
  -- which sets are successful: those that answer 0
  pub successful_exactly : SuccessfulExactly
  -- A version 2 lookup of the withdrawn-key list, where v is the value of the last of these sets and the others are vs.
  -- The edition before the value is the number of these sets, on top of the restored edition. The value is v.
  pub list_edition_answered : AfterCalls ListEditionAnswered
  -- A settings key at two moments, with no accepted start and no accepted restore between.
  -- With the same edition it has the same value, at the last edition too.
  pub same_edition : FromStart (λ p d q. SameEdition q)
  -- Two lookups of a settings key but the passphrase, each over the wire in version 2 or by the local calls.
  -- Both have result 0 and the same edition, and no accepted start and no accepted restore came between.
  -- Then the value is the same, at the last edition too.
  pub same_edition_same_list : FromStart (λ p d q. SameEditionSameList q)
  -- a local call that only reads, as those do, leaves every byte of the parts, whatever it is lent
  pub reads_leave : ReadsLeave
  -- a set at edition 4,294,967,295 answers 4, in both versions, where results 1 to 3 don't apply
  pub set_answered : AfterCalls SetAnswered
  -- and stores nothing, as every set whose result is not 0
  pub stores_nothing : StoresNothing
  -- factory keys have edition 0
  pub factory_edition : FactoryEdition
  -- a reply carries the request's version, or that of the reply retained under the request's number
  pub reply_version : ReplyVersion
  -- a decode failure of reason 1 to 5 has version 1, any other the request's
  pub failure_version : FailureVersion
  -- on valid parts the local call that asks for a key's edition answers its result and edition; no paper asks for this call
  pub edition_meant : EditionMeant
