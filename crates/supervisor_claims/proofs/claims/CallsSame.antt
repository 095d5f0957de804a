-- Parts that are the same but for the passphrase's record: a call, whatever it is lent, leaves such parts; an accepted start equal ones.
-- Assumes nothing.
use mathlib.Core.Path.{◌≡◌, refl, sym, ap, subst, ◌∙◌}
use mathlib.Core.Bool.{Bool, true, false, false≢true, ◌&&◌}
use mathlib.Core.List.{List, ◌++◌}
use Prim.Native.Nat.{ℕ, ◌≤◌}
use native.Mathlib.Omega.{arith}
use lib.ListN as ListN
use lib.ListN.{length, drop, take-append-drop}
use borrow.Author.Tests.{leb-true}
use Rattle.octets.specs.Bytes.{Byte, Each, overlay}
use Rattle.octets.proofs.Each.{each_take}
use Rattle.octets.proofs.Overlay.{overlay-start, overlay-append}
use Rattle.octets.proofs.Zeros.{zeros, length-zeros}
use Rattle.line_claims.specs.Loans.{Loan, first, within, lent_part, back_part, enough_part}
use Rattle.line_claims.proofs.LoanLaws.{back-same}
use Rattle.supervisor.specs.Layout
use Rattle.supervisor.specs.Calls
use Rattle.supervisor.specs.Calls.{Parts}
use Rattle.supervisor.specs.Valid.{good_start, valid_settings}
use Rattle.supervisor.proofs.ValidLaws.{settings-valid}
use Rattle.saving.proofs.KeptLaws.{restored-valid}
use Rattle.responder.specs.Receive
use Rattle.supervisor_claims.specs.ByPart.{Part, published}
use Rattle.supervisor_claims.specs.View.{view}
use Rattle.supervisor_claims.specs.Sound.{Sound}
use Rattle.supervisor_claims.specs.LocalCalls.{LocalCall}
use Rattle.supervisor_claims.specs.Histories
use Rattle.supervisor_claims.specs.Histories.{Call, Typed, did, up_to, Lent, lent_of, given_back, enough, Made, made, locally, start_with}
use Rattle.supervisor_claims.specs.FrameHistory.{piece_read, is_accepted_start, bytes_received_by, starts_anew}
use Rattle.supervisor_claims.specs.Demand1.{parts_fit_call}
use Rattle.supervisor_claims.specs.TwoRuns.{SameButPassphrase}
use Rattle.supervisor_claims.proofs.Sound.{valid-long}
use Rattle.supervisor_claims.proofs.laws.Locality.{EnoughOfAll, lent-sound, lent_view, back-lent}
use Rattle.supervisor_claims.proofs.laws.GoodStart.{good-bad}
use Rattle.supervisor_claims.proofs.calls.StepClaim.{step-fed}
use Rattle.supervisor_claims.proofs.calls.ReceiveClaim.{fed-leaves}
use Rattle.supervisor_claims.proofs.claims.LentCalls.{valid-parts, made_12, widened-enough}
use Rattle.supervisor_claims.proofs.claims.History.{sound-fits}
use Rattle.supervisor_claims.proofs.claims.TwoRunLaws.{Room}
use Rattle.supervisor_claims.proofs.claims.OutsideLaws.{Outside, record-last, outside-lent, outside-back, restored-outside}
use Rattle.supervisor_claims.proofs.claims.FedSame.{outside_of, sets_in_bytes, fed-same}

-- ---- what comes back

back-equal : (n : ℕ) (l : Loan) {s t x y : List ℕ} → s ≡ t → x ≡ y → back_part n l s x ≡ back_part n l t y
back-equal n l e f = rw (e, f)

module _ (p q : Parts) (e : SameButPassphrase p q) (l : Lent) where
  -- parts x and y that came back
  back-parts : (x y : Parts) → x.reader ≡ y.reader → x.outbox ≡ y.outbox → x.factory ≡ y.factory → x.registers ≡ y.registers
      → Outside (back_part Layout.settings_length (l Part.settings) p.settings x.settings)
      (back_part Layout.settings_length (l Part.settings) q.settings y.settings)
      → SameButPassphrase (given_back l p x) (given_back l q y)
  back-parts x y r o f g u = record {
    reader = back-equal _ (l Part.reader) e.reader r;
    outbox = back-equal _ (l Part.outbox) e.outbox o;
    factory = back-equal _ (l Part.factory) e.factory f;
    ahead = u.ahead;
    behind = u.behind;
    registers = back-equal _ (l Part.registers) e.registers g;
  }

  abbrev lent_as : Part → List ℕ → List ℕ
  lent_as i s = lent_part (published i) (l i) s

  -- of the settings what was lent came back
  settings-back : Outside (back_part Layout.settings_length (l Part.settings) p.settings (lent_as Part.settings p.settings))
      (back_part Layout.settings_length (l Part.settings) q.settings (lent_as Part.settings q.settings))
  settings-back =
      let n = Layout.settings_length in
      rw (back-same n p.settings (l Part.settings), back-same n q.settings (l Part.settings))
      (outside_of e)

  -- ---- local calls

  abbrev Both : LocalCall → Type 0
  Both c = SameButPassphrase (made p (locally l c)).parts (made q (locally l c)).parts

  -- a call that changes the outbox, the registers, or none
  other-back : (x y : Parts) → x.reader ≡ lent_as Part.reader p.reader → y.reader ≡ lent_as Part.reader q.reader
      → x.factory ≡ lent_as Part.factory p.factory → y.factory ≡ lent_as Part.factory q.factory
      → x.settings ≡ lent_as Part.settings p.settings → y.settings ≡ lent_as Part.settings q.settings
      → x.outbox ≡ y.outbox → x.registers ≡ y.registers → SameButPassphrase (given_back l p x) (given_back l q y)
  other-back x y xr yr xf yf xs ys o g =
      back-parts x y (xr ∙ ap (lent_as Part.reader) e.reader ∙ sym yr) o (xf ∙ ap (lent_as Part.factory) e.factory ∙ sym yf) g
      (rw (xs, ys) settings-back)

  outbox-lent : lent_as Part.outbox p.outbox ≡ lent_as Part.outbox q.outbox
  outbox-lent = ap (lent_as Part.outbox) e.outbox

  registers-lent : lent_as Part.registers p.registers ≡ lent_as Part.registers q.registers
  registers-lent = ap (lent_as Part.registers) e.registers

  unchanged : SameButPassphrase (given_back l p (lent_of l p)) (given_back l q (lent_of l q))
  unchanged = rw (back-lent l p, back-lent l q) e

  module _ (sp : Sound p) (sq : Sound q) where
    abbrev hp : Layout.settings_length ≤ length p.settings
    hp = (valid-long {p = p} sp.valid).settings

    abbrev hq : Layout.settings_length ≤ length q.settings
    hq = (valid-long {p = q} sq.valid).settings

    restored-back : (image : List ℕ) → enough_part Layout.settings_length (l Part.settings) ≡ true
        → valid_settings (lent_as Part.settings p.settings) ≡ true → valid_settings (lent_as Part.settings q.settings) ≡ true
        → Both (Histories.restore image)
    unfolding made did
    restored-back image h v w =
        let o = outside-lent p.settings q.settings (outside_of e) hp hq (l Part.settings) h in
        let a = (settings-valid _ (restored-valid _ image v)).long in
        let b = (settings-valid _ (restored-valid _ image w)).long in
        back-parts _ _ (ap (lent_as Part.reader) e.reader) outbox-lent (ap (lent_as Part.factory) e.factory) registers-lent
        (outside-back p.settings q.settings (outside_of e) hp hq _ _ (restored-outside image _ _ v w o) a b (l Part.settings) h)

    -- lent enough of the parts that it takes
    local-parts : (c : LocalCall) → enough (Histories.local c) l ≡ true → Both c
    unfolding made did
    local-parts (Histories.take room) h =
        other-back _ _ refl refl refl refl refl refl (ap (λ (o : List ℕ). (Calls.take_promise o room).outbox) outbox-lent) registers-lent
    local-parts (Histories.post action text) h =
        other-back _ _ refl refl refl refl refl refl outbox-lent
        (ap (λ (r : List ℕ). (Calls.post_promise r action text).registers) registers-lent)
    local-parts (Histories.set_options options) h =
        other-back _ _ refl refl refl refl refl refl outbox-lent
        (ap (λ (r : List ℕ). (Calls.options_promise r options).registers) registers-lent)
    local-parts (Histories.lookup key most) h = unchanged
    local-parts (Histories.edition key) h = unchanged
    local-parts Histories.signal h = unchanged
    local-parts Histories.flags h = unchanged
    local-parts (Histories.read_record k) h = unchanged
    local-parts (Histories.save room) h = unchanged
    local-parts (Histories.restore image) h =
        let a = widened-enough l p (valid-long {p = p} sp.valid) (Histories.local (Histories.restore image)) h in
        let b = widened-enough l q (valid-long {p = q} sq.valid) (Histories.local (Histories.restore image)) h in
        restored-back image a.settings (lent-sound _ p a sp).valid.settings (lent-sound _ q b sq).valid.settings

    -- ---- all parts

    module _ (h : EnoughOfAll l) where
      lent_same : SameButPassphrase (lent_of l p) (lent_of l q)
      lent_same =
          let o = outside-lent p.settings q.settings (outside_of e) hp hq (l Part.settings) h.settings in
          record {
            reader = ap (lent_as Part.reader) e.reader;
            outbox = outbox-lent;
            factory = ap (lent_as Part.factory) e.factory;
            ahead = o.ahead;
            behind = o.behind;
            registers = registers-lent;
          }

      back_whole : (x y : Parts) → SameButPassphrase x y → Sound x → Sound y → SameButPassphrase (given_back l p x) (given_back l q y)
      back_whole x y f sx sy =
          back-parts x y f.reader f.outbox f.factory f.registers
          (outside-back p.settings q.settings (outside_of e) hp hq x.settings y.settings (outside_of f)
          (valid-long {p = x} sx.valid).settings (valid-long {p = y} sy.valid).settings (l Part.settings) h.settings)

      fed-back : (image bs : List ℕ) → Each Byte image → Each Byte bs
          → Room (sets_in_bytes (view p).received bs) (view p).settings (view q).settings
          → SameButPassphrase (given_back l p (Receive.feed_bytes image (lent_of l p) bs))
          (given_back l q (Receive.feed_bytes image (lent_of l q) bs))
      fed-back image bs i t r =
          let x = lent_of l p in
          let y = lent_of l q in
          let sx = lent-sound l p h sp in
          let sy = lent-sound l q h sq in
          back_whole _ _
          (fed-same image i bs t x y sx sy lent_same (rw (lent_view l p h sp.valid, lent_view l q h sq.valid) r))
          (fed-leaves image x bs i sx t).1 (fed-leaves image y bs i sy t).1

      -- ---- a start

      fresh-settings : (s t : List ℕ) → Outside s t → Layout.settings_length ≤ length s → Layout.settings_length ≤ length t → (k : Loan)
          → enough_part Layout.settings_length k ≡ true → let z = zeros Layout.settings_length in
          back_part Layout.settings_length k s (overlay 0 z (lent_part Layout.settings_length k s))
          ≡ back_part Layout.settings_length k t (overlay 0 z (lent_part Layout.settings_length k t))
      unfolding lent_part back_part enough_part
      fresh-settings s t o hs ht (first n) k = whole s hs ∙ ap (λ (r : List ℕ). z ++ r) rest ∙ sym (whole t ht)
        where
          z : List ℕ
          z = zeros Layout.settings_length

          whole : (r : List ℕ) → Layout.settings_length ≤ length r
              → overlay 0 z (ListN.take n r) ++ drop n r ≡ z ++ drop Layout.settings_length r
          whole r hr =
              let h = leb-true Layout.settings_length n k in
              let m = length-zeros Layout.settings_length in
              sym (overlay-append (ListN.take n r) (drop n r) 0 z (omega (arith, ListN.length-take n r)))
              ∙ ap (overlay 0 z) (take-append-drop n r) ∙ overlay-start z r ∙ ap (λ (i : ℕ). z ++ drop i r) m

          rest : drop Layout.settings_length s ≡ drop Layout.settings_length t
          rest = subst (λ i. drop i s ≡ drop i t) record-last o.behind
      fresh-settings s t o hs ht (within at n) k = absurd (false≢true k)

      start-long : (d : List ℕ) → (Calls.long_enough (lent_of l p) ≡ true) × (Calls.long_enough (lent_of l q) ≡ true)
      unfolding parts_fit_call Calls.long_enough
      start-long d = (
        sound-fits (lent_of l p) (Histories.start d) (lent-sound l p h sp),
        sound-fits (lent_of l q) (Histories.start d) (lent-sound l q h sq),
      )

      pub start-equal : (d : List ℕ) → good_start d ≡ true → made p (start_with l d) ≡ made q (start_with l d)
      unfolding made did Calls.start_promise Calls.fresh_parts
      start-equal d g =
          rw (
            (start-long d).0,
            (start-long d).1,
            g,
            e.reader,
            e.outbox,
            e.factory,
            e.registers,
            fresh-settings p.settings q.settings (outside_of e) hp hq (l Part.settings) h.settings,
          )

      start-refused : (d : List ℕ) → good_start d ≡ false
          → SameButPassphrase (made p (start_with l d)).parts (made q (start_with l d)).parts
      unfolding made did Calls.start_promise
      start-refused d g = rw ((start-long d).0, (start-long d).1, g) unchanged

-- ---- any call

module _ (p q : Parts) (e : SameButPassphrase p q) (sp : Sound p) (sq : Sound q) where
  accepted-good : (d : List ℕ) → Typed (Histories.start d) → good_start d ≡ is_accepted_start (Histories.start d)
  unfolding is_accepted_start
  accepted-good d t = good-bad d (omega (arith, t.0))

  -- an accepted start
  pub anew-equal : (m : Made) → Typed m.call → starts_anew m ≡ true → made p m ≡ made q m
  unfolding starts_anew is_accepted_start
  anew-equal m t s = by m.call t (enough m.call m.lent) refl s
    where
      by : (c : Call) → Typed c → (b : Bool) → enough c m.lent ≡ b → (b && is_accepted_start c) ≡ true
          → made p (record { lent = m.lent; call = c }) ≡ made q (record { lent = m.lent; call = c })
      by c t false f s = absurd (false≢true s)
      by (Histories.start d) t true f s =
          start-equal p q e m.lent sp sq (widened-enough m.lent p (valid-long {p = p} sp.valid) (Histories.start d) f) d
          (accepted-good d t ∙ s)
      by (Histories.receive image piece) t true f s = absurd (false≢true s)
      by (Histories.step image piece) t true f s = absurd (false≢true s)
      by (Histories.local c) t true f s = absurd (false≢true s)

  module _ (l : Lent) where
    abbrev Leave : Call → Type 0
    Leave c = SameButPassphrase (made p (record { lent = l; call = c })).parts (made q (record { lent = l; call = c })).parts

    -- lent enough
    enough-parts : (c : Call) → Typed c → is_accepted_start c ≡ false → enough c l ≡ true
        → Room (sets_in_bytes (view p).received (piece_read c)) (view p).settings (view q).settings → Leave c
    unfolding made did piece_read Receive.receive_promise Receive.step_promise Receive.valid_step
    enough-parts (Histories.start d) t s h r =
        start-refused p q e l sp sq (widened-enough l p (valid-long {p = p} sp.valid) (Histories.start d) h) d (accepted-good d t ∙ s)
    enough-parts (Histories.receive image piece) t s h r =
        let k = widened-enough l p (valid-long {p = p} sp.valid) (Histories.receive image piece) h in
        rw (valid-parts (lent_of l p) (lent-sound l p k sp).valid, valid-parts (lent_of l q) (lent-sound l q k sq).valid)
        (fed-back p q e l sp sq k image piece t.0 t.1 r)
    enough-parts (Histories.step image piece) t s h r =
        let k = widened-enough l p (valid-long {p = p} sp.valid) (Histories.step image piece) h in
        rw (
          valid-parts (lent_of l p) (lent-sound l p k sp).valid,
          valid-parts (lent_of l q) (lent-sound l q k sq).valid,
          step-fed image piece (lent_of l p),
          step-fed image piece (lent_of l q),
        )
        (fed-back p q e l sp sq k image _ t.0 (each_take Byte (up_to piece) piece t.1) r)
    enough-parts (Histories.local c) t s h r = local-parts p q e l sp sq c h

  pub call-parts : (m : Made) → Typed m.call → starts_anew m ≡ false
      → Room (sets_in_bytes (view p).received (bytes_received_by m)) (view p).settings (view q).settings
      → SameButPassphrase (made p m).parts (made q m).parts
  unfolding starts_anew bytes_received_by
  call-parts m t s r = by (enough m.call m.lent) refl
    where
      by : (x : Bool) → enough m.call m.lent ≡ x → SameButPassphrase (made p m).parts (made q m).parts
      by true f = enough-parts m.lent m.call t (rw f at s) f (rw f at r)
      by false f = rw (made_12 p m f, made_12 q m f) e
