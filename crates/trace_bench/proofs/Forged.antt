-- Whether bytes are forged, by the ledger.
use Rattle.std.proofs.Common.{◌≡◌, ◌↔◌, ℕ, List, [], ◌∷◌, Bool, true, false, not, ◌&&◌, nat_le, if◌then◌else◌, Option, Some, None, option_map, Result, Ok, Err, ◌==◌, IsTrue, refl, sym, ◌∙◌, ap, subst, true≢false, arith}
use Rattle.std.specs.Prelude.{All}
use Rattle.std.proofs.lemmas.Bool.{eqb-true}
use Rattle.std.proofs.lemmas.Bool.Decides.{nat_tests}
use Rattle.std.proofs.lemmas.List.Elements.{All-head, All-tail}
use Rattle.bench_base.specs.declared.{events.Event.Event, words.Node.Node, words.Node.TheVariants.Device, words.Node.TheVariants.Centre, words.Node.TheVariants.Host, words.Node.TheVariants.Verifier, refusals.Unread.Unread, refusals.MarkFault.MarkFault, ledger.Commit.Commit, questions.Brought.Brought, questions.Brought.TheVariants.Nothing}
use Rattle.bench_base.specs.declared.ledger.Commit.TheVariants as c
use Rattle.bench_base.specs.Events.{brought_by}
use Rattle.bench_base.specs.Ranges.{IsDevice, InRange}
use Rattle.bench_base.specs.Ledger.{Ledger, IsSent, IsReleased, counted}
use Rattle.bench_base.specs.Scans.{trusted}
use Rattle.bench_base.proofs.Facts.{unlike}
use Rattle.node_acts.specs.Views.{View}
use Rattle.indicium.specs.declared.Mark.{Mark}
use Rattle.psd_wire.specs.declared.message.Message.{Message}
use Rattle.psd_wire.specs.declared.message.Message.TheVariants as m
use Rattle.psd_wire.specs.Codes.{has_code}
use Rattle.psd_wire.specs.Grammar.{read}
use Rattle.psd_state.specs.Seen as device
use Rattle.centre_ledger.specs.Books.{Books, device_at}
use Rattle.centre_ledger.specs.Records.{device_row_with}
use Rattle.centre_ledger.specs.Seen as centre
use Rattle.centre_ledger.specs.declared.rows.DeviceRow.{DeviceRow}
use Rattle.verifier.specs.Seen as verifier
use Rattle.verifier.proofs.After.{key_after}
use Rattle.ledger_terms.specs.Devices.{key_of}
use Rattle.ledger_terms.specs.Centres.{registered}
use Rattle.ledger_moves.specs.Devices.{record_with, record_in}
use Rattle.ledger_moves.specs.Histories.{AreKnown, IsKnown, IsKnownMark, IsSentBy}
use Rattle.bench_abstraction.specs.Centre.{seen_in}
use Rattle.bench_abstraction.proofs.CentreRows.{device_seen}
use Rattle.trace_centre.specs.Cells as centre_cells
use Rattle.trace_verifier.specs.Cells as scan_cells
use Rattle.trace_device.specs.Records.{seen_of}
use Rattle.trace_bench.specs.declared.known.ByteSet.{ByteSet}
use Rattle.trace_bench.specs.Known.{Has, has}
use Rattle.trace_bench.specs.Seeing.{Audit, Sees, keeps}
use Rattle.trace_bench.specs.Telling.{OfDevice}
use Rattle.trace_bench.specs.Forging.{is_unknown, forged_reply, forged_by, forged_message, forged_release, forged_mark, GivesForged, AreForged, BringsForged, TellsForged, TellsNot}
use Rattle.trace_bench.proofs.Shown.{device_shown}

-- == what is known of one is known of the other ==

tells_same : (b : Bool) (P Q : Type 0) → (P → Q) → (Q → P) → TellsNot b P → TellsNot b Q
tells_same true P Q there back tells = λ q. tells (back q)
tells_same false P Q there back tells = there tells

-- where the premise is met
under : (b : Bool) (Q P : Type 0) → Q → TellsNot b P → TellsNot b (Q → P)
under b Q P q tells = tells_same b P (Q → P) (λ p _. p) (λ f. f q) tells

-- == under a key ==

module _ (bytes : List ℕ) (known : ByteSet (List ℕ)) (P : Type 0) (same : Has bytes known ↔ P) where
  abbrev UnderKey : Option (List ℕ) → Type 0
  UnderKey own = (key : List ℕ) → own ≡ Some key → has_code key bytes ≡ true → P

  by_code : (k : List ℕ) (coded there : Bool) → has_code k bytes ≡ coded → has bytes known ≡ there → TellsNot (coded && not there) (UnderKey (Some k))
  by_code k true true coded there = λ key is code. same.0 there
  by_code k true false coded there = λ all. true≢false (sym (same.1 (all k refl coded)) ∙ there)
  by_code k false there coded is_there = λ key is code. let one : k ≡ key = cc in absurd (true≢false (sym code ∙ ap (λ x. has_code x bytes) (sym one) ∙ coded))

  pub key_tells : (own : Option (List ℕ)) → TellsNot (is_unknown bytes own known) (UnderKey own)
  key_tells None = λ key is code. cc is
  key_tells (Some k) = by_code k (has_code k bytes) (has bytes known) refl refl

  pub keys_tell : (own theirs : Option (List ℕ)) → own ≡ theirs → TellsNot (is_unknown bytes own known) (UnderKey theirs)
  keys_tell own theirs is = subst (λ (o : Option (List ℕ)). TellsNot (is_unknown bytes own known) (UnderKey o)) is (key_tells own)

-- == a device ==

key_kept : (d : ℕ) (C : List Commit) (k : Option (List ℕ)) → option_map (λ s. s.key) (record_with d C k) ≡ k
key_kept d C None = refl
key_kept d C (Some key) = refl

same_device : {d e : ℕ} → Device d ≡ Device e → e ≡ d
same_device to = cc

reply_tells : (bytes : List ℕ) (known : ByteSet (List ℕ)) (d : ℕ) (H : Ledger) → Has bytes known ↔ IsSent bytes H → (x : Result Message Unread)
    → TellsNot (forged_reply (record_in d (counted H)) d bytes known x) (IsKnown bytes x (Device d) H)
reply_tells bytes known d H same (Ok (m.Reply p)) = by (p.device == d) refl
  where
    u : Bool
    u = is_unknown bytes (option_map (λ s. s.key) (record_in d (counted H))) known

    -- under the key of the device that it names
    of : ℕ → Type 0
    of e = (key : List ℕ) → key_of e (counted H) ≡ Some key → has_code key bytes ≡ true → IsSent bytes H

    by : (t : Bool) → (p.device == d) ≡ t → TellsNot (t && u) (Device d ≡ Device p.device → of p.device)
    by true is =
        let one = eqb-true p.device d is in
        under u (Device d ≡ Device p.device) (of p.device) (ap Device (sym one))
        (subst (λ (e : ℕ). TellsNot u (of e)) (sym one) (keys_tell bytes known (IsSent bytes H) same _ (key_of d (counted H)) (key_kept d (counted H) (key_of d (counted H)))))
    by false is = λ to. absurd (unlike p.device d is (same_device to))
reply_tells bytes known d H same (Ok (m.Request q)) = λ to. absurd (cc)
reply_tells bytes known d H same (Ok (m.Done q)) = λ to. absurd (cc)
reply_tells bytes known d H same (Ok (m.Release x)) = λ to. absurd (cc)
reply_tells bytes known d H same (Ok (m.Debit q)) = λ to. tt
reply_tells bytes known d H same (Err x) = λ to. tt

-- == the centre ==

-- a device that is registered is one of the eight
registered_range : (d : ℕ) (C : List Commit) (x : ℕ × List ℕ) → All InRange C → registered d C ≡ Some x → IsDevice d
registered_range d [] x range is = cc is
registered_range d (c.Registered e origin key ∷ C) x range is =
    by (e == d) refl is (λ same. registered_range d C x (All-tail InRange (c.Registered e origin key) C range) same)
  where
    by : (t : Bool) → (e == d) ≡ t → (if t then Some (origin, key) else registered d C) ≡ Some x → (registered d C ≡ Some x → IsDevice d) → IsDevice d
    by true named same before = subst IsDevice (eqb-true e d named) (All-head InRange (c.Registered e origin key) C range).0
    by false named same before = before same
registered_range d (c.Made e key ∷ C) x range is = registered_range d C x (All-tail InRange _ C range) is
registered_range d (c.Asked e n note ∷ C) x range is = registered_range d C x (All-tail InRange _ C range) is
registered_range d (c.Applied e n v ∷ C) x range is = registered_range d C x (All-tail InRange _ C range) is
registered_range d (c.Debited e piece postage class day version ∷ C) x range is = registered_range d C x (All-tail InRange _ C range) is
registered_range d (c.Opened w ∷ C) x range is = registered_range d C x (All-tail InRange _ C range) is
registered_range d (c.Deposited w receipt amount ∷ C) x range is = registered_range d C x (All-tail InRange _ C range) is
registered_range d (c.Flagged w suspended ∷ C) x range is = registered_range d C x (All-tail InRange _ C range) is
registered_range d (c.Ruled e n v note ∷ C) x range is = registered_range d C x (All-tail InRange _ C range) is
registered_range d (c.Settled e n ∷ C) x range is = registered_range d C x (All-tail InRange _ C range) is
registered_range d (c.Ordered j e piece postage class ∷ C) x range is = registered_range d C x (All-tail InRange _ C range) is
registered_range d (c.Held j mark ∷ C) x range is = registered_range d C x (All-tail InRange _ C range) is
registered_range d (c.Began j ∷ C) x range is = registered_range d C x (All-tail InRange _ C range) is
registered_range d (c.Closed j ∷ C) x range is = registered_range d C x (All-tail InRange _ C range) is
registered_range d (c.Trusted e key ∷ C) x range is = registered_range d C x (All-tail InRange _ C range) is
registered_range d (c.Accepted e piece scan ∷ C) x range is = registered_range d C x (All-tail InRange _ C range) is

is_device : (d : ℕ) → (nat_le 1 d && nat_le d 8) ≡ true → IsDevice d
is_device d is = (grind (arith, nat_tests), grind (arith, nat_tests))

no_device : (d : ℕ) → (nat_le 1 d && nat_le d 8) ≡ false → IsDevice d → ⊥
no_device d is named = let low = named.0 in let high = named.1 in grind (arith, nat_tests)

row_key : (d : ℕ) (C : List Commit) (o : Option (ℕ × List ℕ)) → option_map (λ r. r.key) (option_map (λ x. device_row_with d C x) o) ≡ option_map (λ x. x.1) o
row_key d C None = refl
row_key d C (Some x) = refl

module _ (bytes : List ℕ) (known : ByteSet (List ℕ)) (H : Ledger) (same : Has bytes known ↔ IsSent bytes H) (range : All InRange (counted H)) where
  abbrev rows : Books
  rows = centre.books_in (seen_in (counted H))

  -- under the key of its row, or under that with which it was registered
  registered_tells : (d : ℕ) (b : Bool) → TellsNot b ((key : List ℕ) → option_map (λ x. x.1) (registered d (counted H)) ≡ Some key → has_code key bytes ≡ true → IsSent bytes H) → TellsNot b (IsSentBy bytes d H)
  registered_tells d b tells = tells_same b _ (IsSentBy bytes d H) (λ all x is code. all x.1 (ap (option_map (λ y. y.1)) is) code) back tells
    where
      named : (o : Option (ℕ × List ℕ)) (key : List ℕ) → option_map (λ x. x.1) o ≡ Some key → (x : ℕ × List ℕ) × (o ≡ Some x) × (x.1 ≡ key)
      named None key is = cc is
      named (Some x) key is = (x, refl, cc)

      back : IsSentBy bytes d H → (key : List ℕ) → option_map (λ x. x.1) (registered d (counted H)) ≡ Some key → has_code key bytes ≡ true → IsSent bytes H
      back all key is code = let w = named (registered d (counted H)) key is in all w.0 w.1 (ap (λ k. has_code k bytes) w.2 ∙ code)

  by_tells : (d : ℕ) → TellsNot (forged_by rows d bytes known) (IsSentBy bytes d H)
  by_tells d = by (nat_le 1 d && nat_le d 8) refl
    where
      by : (t : Bool) → (nat_le 1 d && nat_le d 8) ≡ t → TellsNot (if t then is_unknown bytes (option_map (λ r. r.key) (device_at rows d)) known else false) (IsSentBy bytes d H)
      by true is =
          let of = is_device d is in
          let keys : option_map (λ r. r.key) (device_at rows d) ≡ option_map (λ x. x.1) (registered d (counted H)) =
          ap (option_map (λ (r : DeviceRow). r.key)) (device_seen (counted H) d of.0 of.1) ∙ row_key d (counted H) (registered d (counted H)) in
          registered_tells d _ (keys_tell bytes known (IsSent bytes H) same _ _ keys)
      by false is = λ x made code. absurd (no_device d is (registered_range d (counted H) x range made))

  message_tells : (x : Result Message Unread) → TellsNot (forged_message rows bytes known x) (IsKnown bytes x Centre H)
  message_tells (Ok (m.Request q)) = under (forged_by rows q.device bytes known) (Centre ≡ Centre) (IsSentBy bytes q.device H) refl (by_tells q.device)
  message_tells (Ok (m.Done q)) = under (forged_by rows q.device bytes known) (Centre ≡ Centre) (IsSentBy bytes q.device H) refl (by_tells q.device)
  message_tells (Ok (m.Reply p)) = λ to. absurd (cc)
  message_tells (Ok (m.Release x)) = λ to. absurd (cc)
  message_tells (Ok (m.Debit q)) = λ to. tt
  message_tells (Err x) = λ to. tt

-- == the host ==

release_tells : (bytes : List ℕ) (known : ByteSet (List ℕ)) (H : Ledger) → ((mark : List ℕ) → Has mark known ↔ IsReleased mark H) → (x : Result Message Unread) → TellsNot (forged_release known x) (IsKnown bytes x Host H)
release_tells bytes known H same (Ok (m.Release x)) = under (not (has x known)) (Host ≡ Host) (IsReleased x H) refl (by (has x known) refl)
  where
    by : (t : Bool) → has x known ≡ t → TellsNot (not t) (IsReleased x H)
    by true is = (same x).0 is
    by false is = λ released. true≢false (sym ((same x).1 released) ∙ is)
release_tells bytes known H same (Ok (m.Request q)) = λ to. absurd (cc)
release_tells bytes known H same (Ok (m.Done q)) = λ to. absurd (cc)
release_tells bytes known H same (Ok (m.Reply p)) = λ to. absurd (cc)
release_tells bytes known H same (Ok (m.Debit q)) = λ to. tt
release_tells bytes known H same (Err x) = λ to. tt

verifier_tells : (bytes : List ℕ) (H : Ledger) (x : Result Message Unread) → IsKnown bytes x Verifier H
verifier_tells bytes H (Ok (m.Release x)) = λ to. absurd (cc)
verifier_tells bytes H (Ok (m.Request q)) = λ to. absurd (cc)
verifier_tells bytes H (Ok (m.Done q)) = λ to. absurd (cc)
verifier_tells bytes H (Ok (m.Reply p)) = λ to. absurd (cc)
verifier_tells bytes H (Ok (m.Debit q)) = λ to. tt
verifier_tells bytes H (Err x) = λ to. tt

-- == scanned bytes ==

mark_tells : (bytes : List ℕ) (known : ByteSet (List ℕ)) (s : verifier.Seen) (H : Ledger) → Has bytes known ↔ IsReleased bytes H → ((d : ℕ) → verifier.key_at s d ≡ trusted d (counted H)) → (x : Result (Mark × List ℕ) MarkFault)
    → TellsNot (forged_mark s bytes known x) (IsKnownMark bytes x H)
mark_tells bytes known s H same keys (Ok k) = keys_tell bytes known (IsReleased bytes H) same _ (trusted k.0.device (counted H)) (keys k.0.device)
mark_tells bytes known s H same keys (Err fault) = tt

-- == by what the auditor has ==

module _ (a : Audit) (kept : IsTrue (keeps a).all) (H : Ledger) (sees : Sees a H) (bytes : List ℕ) (x : Result Message Unread) where
  told_reply : (d : ℕ) (b : Bool) → OfDevice d a (λ s. b ≡ forged_reply (seen_of s.record).state d bytes a.known.sent x) → TellsNot b (IsKnown bytes x (Device d) H)
  told_reply d b of =
      let shown = device_shown a H sees d (λ (v : View device.Seen). forged_reply v.state.state d bytes a.known.sent x) b (record { place = of.place; is_device = of.is_device; traced = of.traced; at = of.at; holds = of.holds }) in
      subst (λ (t : Bool). TellsNot t (IsKnown bytes x (Device d) H)) (sym shown) (reply_tells bytes a.known.sent d H (sees.known.sent kept bytes) x)

  told_message : All InRange (counted H) → (b : Bool) → b ≡ forged_message (centre.books_in (centre_cells.cells_of a.centre.record)) bytes a.known.sent x → TellsNot b (IsKnown bytes x Centre H)
  told_message range b is =
      let shown = is ∙ ap (λ (v : View centre.Seen). forged_message (centre.books_in v.state) bytes a.known.sent x) sees.run.centre in
      subst (λ (t : Bool). TellsNot t (IsKnown bytes x Centre H)) (sym shown) (message_tells bytes a.known.sent H (sees.known.sent kept bytes) range x)

  told_release : (b : Bool) → b ≡ forged_release a.known.released x → TellsNot b (IsKnown bytes x Host H)
  told_release b is = subst (λ (t : Bool). TellsNot t (IsKnown bytes x Host H)) (sym is) (release_tells bytes a.known.released H (sees.known.released kept) x)

pub told_given : (a : Audit) → IsTrue (keeps a).all → (H : Ledger) → Sees a H → All InRange (counted H) → (n : Node) (bytes : List ℕ) (b : Bool) → GivesForged a n bytes b → TellsNot b (IsKnown bytes (read bytes) n H)
told_given a kept H sees range (Device d) bytes b is = told_reply a kept H sees bytes (read bytes) d b is
told_given a kept H sees range Centre bytes b is = told_message a kept H sees bytes (read bytes) range b is
told_given a kept H sees range Host bytes b is = told_release a kept H sees bytes (read bytes) b is
told_given a kept H sees range Verifier bytes b is = subst (λ (t : Bool). TellsNot t (IsKnown bytes (read bytes) Verifier H)) (sym is) (verifier_tells bytes H (read bytes))

pub told_mark : (a : Audit) (kept : IsTrue (keeps a).all) (H : Ledger) (sees : Sees a H) (bytes : List ℕ) (x : Result (Mark × List ℕ) MarkFault) → All InRange (counted H) → (b : Bool)
    → b ≡ forged_mark (scan_cells.cells_of a.verifier.record) bytes a.known.released x → TellsNot b (IsKnownMark bytes x H)
told_mark a kept H sees bytes x range b is =
    subst (λ (t : Bool). TellsNot t (IsKnownMark bytes x H)) (sym is)
    (mark_tells bytes a.known.released (scan_cells.cells_of a.verifier.record) H (sees.known.released kept bytes)
    (λ d. ap (λ (v : View verifier.Seen). verifier.key_at v.state d) sees.run.verifier ∙ key_after (counted H) d range) x)

-- == the event contains no bytes ==

pub none_forged : (a : Audit) (e : Event) → brought_by e ≡ Nothing → BringsForged a e false
none_forged a e is = subst (λ (x : Brought). AreForged a x false) (sym is) refl

pub none_told : (a : Audit) (e : Event) → brought_by e ≡ Nothing → TellsForged a e false
none_told a e is = λ τ H history sees. subst (λ (x : Brought). TellsNot false (AreKnown x H)) (sym is) tt
