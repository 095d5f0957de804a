-- What each command does on sound parts: the state, the reply, and what stays of settings and registers.
-- Assumes nothing.
use mathlib.Core.Path.{◌≡◌, refl}
use mathlib.Core.Bool.{true}
use mathlib.Core.List.{List, []}
use mathlib.Core.Option.{Option, none, some}
use Prim.Native.Nat.{ℕ, ◌+◌, ◌^◌, ◌<◌}
use native.Mathlib.Omega.{arith}
use lib.ListN.{drop, length-drop}
use Rattle.octets.specs.Bytes.{Byte, Each, number_at}
use Rattle.octets.proofs.Each.{each-drop, each-run}
use Rattle.octets.proofs.Numbers.{one_byte, number_small}
use Rattle.line.specs.Message.{Message}
use Rattle.supervisor.specs.Layout
use Rattle.supervisor.specs.Valid.{valid_factory}
use Rattle.supervisor.specs.Calls.{Parts}
use Rattle.supervisor.proofs.ValidLaws.{settings-valid, registers-valid}
use Rattle.responder.specs.Commands.{Command}
use Rattle.responder.specs.Requests
use Rattle.responder.specs.Receive
use Rattle.responder.proofs.KeptLaws.{alert-data-short}
use Rattle.supervisor_claims.specs.View.{view}
use Rattle.supervisor_claims.specs.Sound.{with_registers, Sound}
use Rattle.supervisor_claims.proofs.laws.PartLaws.{Like, like-itself}
use Rattle.supervisor_claims.proofs.laws.SettingLaws.{storing-stored, stored-result}
use Rattle.supervisor_claims.proofs.laws.RecordLaws.{reboot-view, power-off-view, asked-like, boot-failure-view, panic-view}
use Rattle.supervisor_claims.proofs.laws.RecordLaws.{record-like, acknowledged-view, acknowledged-like}
use Rattle.supervisor_claims.proofs.laws.TakenLaws.{alert-asked, alert-reply}
use Rattle.supervisor_claims.proofs.calls.SendingClaim.{Sendable, run-sendable}
use Rattle.supervisor_claims.proofs.calls.AnswersClaim.{bsu-meant, identity-meant, mac-meant, status-meant, block-meant}
use Rattle.supervisor_claims.proofs.calls.AnswersClaim.{block-sendable, value-meant, value-sendable, item-meant, item-sendable}
use Rattle.supervisor_claims.proofs.calls.ReceivedClaim.{Requestable}

-- the parts with other settings and registers
abbrev pub with_stores : Parts → Receive.Inner → Parts
with_stores p i = record { reader = p.reader; outbox = p.outbox; factory = p.factory; settings = i.settings; registers = i.registers }

-- the data of a reply, where there is one
abbrev pub SendableReply : Option Requests.ReplyContent → Type 0
SendableReply none = Unit {0}
SendableReply (some r) = Sendable r.payload

-- What a request leaves is what the meaning has: the state, and the pending reply, which can be sent.
-- Both parts are as long as before, and bytes where they were.
pub record Changed (p : Parts) (i : Receive.Inner) (sequence : ℕ) (c : Requests.Carried) : Type 0 where
  pub state : view (with_stores p i) ≡ c.state
  pub outbox : i.outbox ≡ Receive.sent_box (Requests.reply_frame (Requests.reply_of sequence c.reply)) p.outbox
  pub settings : Like p.settings i.settings
  pub registers : Like p.registers i.registers
  pub payload : SendableReply c.reply

-- other registers, and these bytes to send
registers-changed : {p : Parts} {r bs : List ℕ} {sequence : ℕ} {c : Requests.Carried} → view (with_registers p r) ≡ c.state
    → bs ≡ Requests.reply_frame (Requests.reply_of sequence c.reply) → Like p.registers r → SendableReply c.reply
    → Changed p (Receive.inner (Receive.sent_box bs p.outbox) p.settings r) sequence c
registers-changed {p} e f l k = record { state = e; outbox = rw f; settings = like-itself p.settings; registers = l; payload = k }

module _ (p : Parts) (s : Sound p) (image : List ℕ) (each : Each Byte image) (m : Message) (q : Requestable m) where
  -- of a command
  abbrev Does : Command → Type 0
  Does x =
      Changed p (Receive.command_leaves x image p.factory (Receive.inner_of p) m.version m.sequence m.payload) m.sequence
      (Requests.effect x image (view p) m)

  -- a reply alone
  answers : (command : ℕ) {bs payload : List ℕ} → bs ≡ payload → Sendable bs
      → Changed p (Receive.reply_alone (Receive.inner_of p) (Receive.reply_head m.version m.sequence) command bs) m.sequence
      (Requests.reply_with (view p) m.version command payload)
  unfolding Receive.reply_alone Requests.reply_of Requests.reply_frame
  answers command e k = registers-changed refl (rw e) (like-itself p.registers) (rw e at k)

  abbrev f : List ℕ
  f = p.factory

  abbrev fv : valid_factory f ≡ true
  fv = s.valid.factory

  abbrev fb : Each Byte f
  fb = s.bytes.factory

  below : m.sequence < 2 ^ 64
  below = omega (arith, q.sequence)

  none-sendable : Sendable []
  none-sendable = (omega arith, tt)

  boot-failure-does : Does Command.boot-failure
  unfolding Receive.command_leaves Receive.no_reply Requests.effect Requests.boot_failure Requests.reply_of Requests.reply_frame
  boot-failure-does =
      let w = registers-valid p.registers s.valid.registers in
      let d = m.payload in
      let small = number_small 1 0 d q.payload in
      let size = length-drop 1 d in
      let fits = q.fits in
      registers-changed (boot-failure-view p w (number_at 1 d 0) (drop 1 d) (omega arith) (omega arith)) refl
      (record-like p w Layout.boot_failure_offset (number_at 1 d 0) (drop 1 d) (omega arith) (each-drop Byte 1 d q.payload)) tt

  panic-does : Does Command.panic
  unfolding Receive.command_leaves Receive.acknowledged Requests.effect Requests.panicked Requests.reply_of Requests.reply_frame
  panic-does =
      let w = registers-valid p.registers s.valid.registers in
      let d = m.payload in
      let small = number_small 2 0 d q.payload in
      let size = length-drop 2 d in
      let fits = q.fits in
      registers-changed (panic-view p w (number_at 2 d 0) (drop 2 d) (omega arith) (omega arith)) refl
      (record-like p w Layout.panic_offset (number_at 2 d 0) (drop 2 d) (omega arith) (each-drop Byte 2 d q.payload)) none-sendable

  start-does : Does Command.start-acknowledged
  unfolding Receive.command_leaves Receive.acknowledged Requests.effect Requests.start_acknowledged Requests.reply_of Requests.reply_frame
  start-does =
      let w = registers-valid p.registers s.valid.registers in
      registers-changed (acknowledged-view p w m.version) refl (acknowledged-like p w _) none-sendable

  alert-sendable : SendableReply (Requests.alert_asked m.version (view p) m.sequence (view p).retained).reply
  alert-sendable =
      let r = Receive.alert_registers p.registers m.version m.sequence in
      let like = (alert-asked p s.valid m.version m.sequence q.version below).like in
      rw (alert-reply p s.valid m.version m.sequence q.version below s.bytes.registers) (
        omega (arith, alert-data-short p.registers m.version m.sequence s.valid.registers),
        each-run (Layout.retained_alert_offset + Layout.alert_action_offset) (1 + Layout.alert_text_length r Layout.retained_alert_offset) r
            (like.bytes s.bytes.registers),
      )

  alert-does : Does Command.alert
  unfolding Receive.command_leaves Receive.alert_answered Requests.effect Requests.reply_of Requests.reply_frame
  alert-does =
      let a = alert-asked p s.valid m.version m.sequence q.version below in
      registers-changed a.state (rw (alert-reply p s.valid m.version m.sequence q.version below s.bytes.registers))
      a.like alert-sendable

  key-set-does : Does Command.key_set
  unfolding Receive.command_leaves Receive.key_set_answered Requests.effect Requests.key_set Requests.reply_of Requests.reply_frame view
  key-set-does =
      let d = m.payload in
      let k =
      storing-stored p.settings (drop 1 d) (settings-valid p.settings s.valid.settings) s.bytes.settings
      (each-drop Byte 1 d q.payload) (number_at 1 d 0) in
      let r = stored-result p.settings (drop 1 d) (number_at 1 d 0) in
      record {
        state = rw k.settings;
        outbox = rw (one_byte _ k.small, r);
        settings = k.like;
        registers = like-itself p.registers;
        payload = (omega arith, (rw (← r) k.small, tt));
      }

  pub command-does : (x : Command) → Does x
  unfolding Receive.command_leaves Receive.no_reply Requests.effect Requests.reboot Requests.power_off Requests.reply_of
      Requests.reply_frame
      view
  command-does Command.reboot =
      registers-changed (reboot-view p s.valid.registers) refl (asked-like p s.valid.registers Layout.reboot_offset (omega arith))
      tt
  command-does Command.power-off =
      registers-changed (power-off-view p s.valid.registers) refl
      (asked-like p s.valid.registers Layout.power_off_offset (omega arith)) tt
  command-does Command.bsu = answers 0x03 (bsu-meant f fv fb) (run-sendable Layout.bsu_offset 1 f (omega arith) fb)
  command-does Command.identity = answers 0x04 (identity-meant f fv fb) (run-sendable Layout.identity_offset 26 f (omega arith) fb)
  command-does Command.mac = answers 0x05 (mac-meant f fv fb) (run-sendable Layout.mac_offset 9 f (omega arith) fb)
  command-does Command.boot-failure = boot-failure-does
  command-does Command.panic = panic-does
  command-does Command.status =
      answers 0x06 (status-meant p.registers s.valid.registers s.bytes.registers)
      (run-sendable Layout.status_offset 16 p.registers (omega arith) s.bytes.registers)
  command-does Command.start-acknowledged = start-does
  command-does Command.alert = alert-does
  command-does Command.image_block = answers 0x09 (block-meant f image m.payload) (block-sendable f image m.payload each)
  command-does Command.key_lookup =
      answers 0x0a (value-meant p s.valid fb s.bytes.settings m.version m.payload)
      (value-sendable p s.valid fb s.bytes.settings m.version m.payload)
  command-does Command.inventory =
      answers 0x0b (item-meant f fv fb (number_at 4 m.payload 0)) (item-sendable f fv fb (number_at 4 m.payload 0))
  command-does Command.key_set = key-set-does
