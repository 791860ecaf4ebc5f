-- What holds of every history, and that each kind of entry keeps it. The counted commits are a good list. An open commit would
-- fit them, and its node is off. Each message that was sent reads as one that the counted commits vouch for. The entries that
-- report a mark, a print or an acceptance have what they rest on. At an Up the open commit counts or not: either way the list
-- stays good, and what other nodes' open commits rest on stays too.
use Rattle.std.proofs.Common.{◌≡◌, ℕ, ℤ, ◌+◌, ◌<◌, ◌^◌, Bool, true, false, List, [], ◌∷◌, Option, Some, None, Ok, cond, refl, sym, ap, subst, ◌∙◌, true≢false, ◌⊎◌, inl, inr, ⊎_elim}
use Rattle.std.specs.Prelude.{◌==◌, IsSome}
use Rattle.std.proofs.lemmas.Bool.{cases_Bool}
use Rattle.std.proofs.lemmas.Option.{same_Some, none-some}
use Rattle.bench_base.specs.declared.{words.Node.Node, words.Verdict.Verdict, ledger.Commit.Commit, ledger.Commit.TheVariants.Held, ledger.Commit.TheVariants.Accepted, ledger.Entry.Entry}
use Rattle.bench_base.specs.declared.ledger.Entry.TheVariants as e
use Rattle.bench_base.specs.Rules.{Rules}
use Rattle.bench_base.specs.Nodes.{same_node, node_of}
use Rattle.bench_base.specs.Ranges.{IsDay, IsDevice, IsWord, InRange}
use Rattle.psd_wire.specs.declared.{message.DebitMsg.DebitMsg, message.ReplyMsg.ReplyMsg, message.Message.Message}
use Rattle.bench_base.specs.Kinds.{is_granted}
use Rattle.bench_base.specs.Ledger.{Ledger, day_in, IsSent, IsReleased, IsReleasedAs, IsPrinted, is_on, count_of, torn_of, at_up, counted}
use Rattle.bench_base.specs.Jobs.{held_of, begun}
use Rattle.bench_base.proofs.Facts.{ok_same, same_node_true}
use Rattle.psd_wire.specs.declared.message.Message.TheVariants as m
use Rattle.psd_wire.specs.Grammar.{read}
use Rattle.ledger_terms.specs.Requests.{request_in, note_of}
use Rattle.ledger_terms.specs.Devices.{key_of, applied_of}
use Rattle.ledger_terms.specs.InFlight.{ruling_of}
use Rattle.ledger_terms.specs.Rulings.{ruled_reply}
use Rattle.ledger_terms.specs.Franking.{marked}
use Rattle.ledger_terms.specs.Lawful.{Always, Releases, PrintedOnce}
use Rattle.ledger_laws.proofs.Kept.{note_kept, ruling_kept, ruled_reply_kept, applied_kept, begun_kept}
use Rattle.ledger_laws.proofs.Good.{Fits, Good}
use Rattle.ledger_laws.proofs.Frame.{frame}

-- == nodes ==

-- a node that is on and a node that is off are two
apart : (m n : Node) (H : Ledger) → is_on m H ≡ true → is_on n H ≡ false → same_node m n ≡ false
apart m n H on off = ⊎_elim
    (λ (h : same_node m n ≡ true). absurd (true≢false (sym on ∙ (ap (λ x. is_on x H) (same_node_true m n h) ∙ off))))
    (λ (h : same_node m n ≡ false). h)
    (cases_Bool (same_node m n))

-- == messages that the commits vouch for ==

pub record GenuineReply (p : ReplyMsg) (C : List Commit) : Type 0 where
  pub note : List ℕ
  pub ruled_as : ruling_of p.device p.number C ≡ Some (p.verdict, note)
  pub kind : p.kind ≡ (request_in note).kind
  pub amount : is_granted p.verdict ≡ true → p.amount ≡ (request_in note).amount
  -- and it is, whole, the Reply of that ruling
  pub whole : ruled_reply p.device p.number C ≡ Some p

-- piece and class of a Debit fit their fields
abbrev pub IsCommand : DebitMsg → Type 0
IsCommand q = IsWord q.piece × (q.class < 2 ^ 16)

-- a Request was asked so, a Reply was ruled so, a Done was applied, a Debit is for one of the devices and fits its fields, and a Release carries a mark that was released
abbrev pub GenuineAs : List ℕ → Message → Ledger → List Commit → Type 0
GenuineAs bytes (m.Request q) H C = note_of q.device q.number C ≡ Some bytes
GenuineAs bytes (m.Reply p) H C = GenuineReply p C
GenuineAs bytes (m.Done q) H C = (v : Verdict) × (applied_of q.device q.number C ≡ Some v)
GenuineAs bytes (m.Debit q) H C = IsDevice q.device × IsCommand q
GenuineAs bytes (m.Release x) H C = IsReleased x H

pub record Genuine (bytes : List ℕ) (H : Ledger) (C : List Commit) : Type 0 where
  pub what : Message
  pub reads : read bytes ≡ Ok what
  pub vouched : GenuineAs bytes what H C

-- by whatever message the bytes read as
pub genuine_at : (bytes : List ℕ) (x : Message) (H : Ledger) (C : List Commit) → Genuine bytes H C → read bytes ≡ Ok x → GenuineAs bytes x H C
genuine_at bytes x H C g reads = subst (λ (y : Message). GenuineAs bytes y H C) (ok_same (sym g.reads ∙ reads)) g.vouched

pub released_kept : (x : List ℕ) (k : Entry) (H : Ledger) → IsReleased x H → IsReleased x (k ∷ H)
released_kept x (e.Released d p y) H h = inr h
released_kept x _ H h = h

pub reply_kept : (p : ReplyMsg) (c : Commit) (C : List Commit) → GenuineReply p C → GenuineReply p (c ∷ C)
reply_kept p c C g = record { note = g.note; ruled_as = ruling_kept p.device p.number (p.verdict, g.note) c C g.ruled_as; kind = g.kind; amount = g.amount; whole = ruled_reply_kept p.device p.number p c C g.whole }

as_commit : (bytes : List ℕ) (x : Message) (H : Ledger) (c : Commit) (C : List Commit) → GenuineAs bytes x H C → GenuineAs bytes x H (c ∷ C)
as_commit bytes (m.Request q) H c C g = note_kept q.device q.number bytes c C g
as_commit bytes (m.Reply p) H c C g = reply_kept p c C g
as_commit bytes (m.Done q) H c C g = (g.0, applied_kept q.device q.number g.0 c C g.1)
as_commit bytes (m.Debit q) H c C g = g
as_commit bytes (m.Release x) H c C g = g

as_entry : (bytes : List ℕ) (x : Message) (k : Entry) (H : Ledger) (C : List Commit) → GenuineAs bytes x H C → GenuineAs bytes x (k ∷ H) C
as_entry bytes (m.Request q) k H C g = g
as_entry bytes (m.Reply p) k H C g = g
as_entry bytes (m.Done q) k H C g = g
as_entry bytes (m.Debit q) k H C g = g
as_entry bytes (m.Release x) k H C g = released_kept x k H g

pub genuine_commit : (bytes : List ℕ) (H : Ledger) (c : Commit) (C : List Commit) → Genuine bytes H C → Genuine bytes H (c ∷ C)
genuine_commit bytes H c C g = record { what = g.what; reads = g.reads; vouched = as_commit bytes g.what H c C g.vouched }

pub genuine_entry : (bytes : List ℕ) (k : Entry) (H : Ledger) (C : List Commit) → Genuine bytes H C → Genuine bytes (k ∷ H) C
genuine_entry bytes k H C g = record { what = g.what; reads = g.reads; vouched = as_entry bytes g.what k H C g.vouched }

-- == what a commit rests on beside the commits: a mark that is held or accepted was released ==

abbrev pub Sure : Commit → Ledger → Type 0
Sure (Held j x) H = IsReleased x H
Sure (Accepted d p s) H = IsReleasedAs d p H
Sure c H = Unit {0}

-- the newest counted commit has what it rests on
abbrev pub NewestSure : Ledger → List Commit → Type 0
NewestSure H [] = Unit {0}
NewestSure H (c ∷ C) = Sure c H

released_as_kept : (d p : ℕ) (k : Entry) (H : Ledger) → IsReleasedAs d p H → IsReleasedAs d p (k ∷ H)
released_as_kept d p (e.Released f q y) H h = inr h
released_as_kept d p _ H h = h

sure_kept : (c : Commit) (k : Entry) (H : Ledger) → Sure c H → Sure c (k ∷ H)
sure_kept (Held j x) k H h = released_kept x k H h
sure_kept (Accepted d p s) k H h = released_as_kept d p k H h
sure_kept _ k H h = tt

newest_kept : (k : Entry) (H : Ledger) (C : List Commit) → NewestSure H C → NewestSure (k ∷ H) C
newest_kept k H [] h = tt
newest_kept k H (c ∷ C) h = sure_kept c k H h

-- == the invariant ==

-- what the newest entry reports, and the newest counted commit, have what they rest on
pub record Told (P : Ledger) : Type 0 where
  pub releases : Releases P
  pub prints : PrintedOnce P
  pub sure : NewestSure P (counted P)

-- an open commit: its node is off, and counting it next would do no harm
pub record OpenFits (ρ : Rules) (n : Node) (c : Commit) (on : Bool) (H : Ledger) (C : List Commit) : Type 0 where
  pub node : node_of c ≡ n
  pub off : on ≡ false
  pub fits : Fits ρ c C
  pub range : InRange c
  pub sure : Sure c H

abbrev pub Opens : Rules → Ledger → Type 0
Opens ρ H = (n : Node) (c : Commit) → torn_of n H ≡ Some c → OpenFits ρ n c (is_on n H) H (counted H)

abbrev pub Sents : Ledger → Type 0
Sents H = (bytes : List ℕ) → IsSent bytes H → Genuine bytes H (counted H)

abbrev pub Printeds : Ledger → Type 0
Printeds H = (j : ℕ) → IsPrinted j H → begun j (counted H) ≡ true

abbrev pub Dated : Ledger → Type 0
Dated H = (t : ℤ) → day_in H ≡ Some t → IsDay t

pub record Inv (ρ : Rules) (H : Ledger) : Type 0 where
  pub good : Good ρ (counted H)
  pub opens : Opens ρ H
  pub sents : Sents H
  pub told : Always Told H
  pub printed : Printeds H
  pub dated : Dated H

pub now : {A : Type 0} (P : List A → Type 0) (xs : List A) → Always P xs → P xs
now P [] h = h
now P (x ∷ xs) h = h.0

module _ (ρ : Rules) where
  pub inv_none : Inv ρ []
  inv_none = record { good = tt; opens = λ n c h. absurd (none-some _ h); sents = λ x h. absurd h; told = record { releases = tt; prints = tt; sure = tt }; printed = λ j h. absurd h; dated = λ t h. absurd (none-some _ h) }

  -- an entry that changes no more than what is reported leaves open commits as they are
  open_kept : (k : Entry) (H : Ledger) (n : Node) (c : Commit) (on : Bool) → OpenFits ρ n c on H (counted H) → OpenFits ρ n c on (k ∷ H) (counted H)
  open_kept k H n c on o = record { node = o.node; off = o.off; fits = o.fits; range = o.range; sure = sure_kept c k H o.sure }

  sure_of : (k : Entry) (H : Ledger) → Inv ρ H → NewestSure (k ∷ H) (counted H)
  sure_of k H i = newest_kept k H (counted H) (now Told H i.told).sure

  pub inv_day : (H : Ledger) (t : ℤ) → IsDay t → Inv ρ H → Inv ρ (e.Day t ∷ H)
  inv_day H t day i = record {
    good = i.good;
    opens = λ n c h. open_kept (e.Day t) H n c (is_on n H) (i.opens n c h);
    sents = λ x h. genuine_entry x (e.Day t) H (counted H) (i.sents x h);
    told = (record { releases = tt; prints = tt; sure = sure_of (e.Day t) H i }, i.told);
    printed = i.printed;
    dated = λ z h. subst IsDay (same_Some _ _ h) day;
  }

  pub inv_rates : (H : Ledger) (text : List ℕ) → Inv ρ H → Inv ρ (e.Rates text ∷ H)
  inv_rates H text i = record {
    good = i.good;
    opens = λ n c h. open_kept (e.Rates text) H n c (is_on n H) (i.opens n c h);
    sents = λ x h. genuine_entry x (e.Rates text) H (counted H) (i.sents x h);
    told = (record { releases = tt; prints = tt; sure = sure_of (e.Rates text) H i }, i.told);
    printed = i.printed;
    dated = i.dated;
  }

  pub inv_released : (H : Ledger) (d p : ℕ) (x : List ℕ) → IsSome (key_of d (counted H)) → marked d p (counted H) ≡ Some x → Inv ρ H → Inv ρ (e.Released d p x ∷ H)
  inv_released H d p x made mark i = record {
    good = i.good;
    opens = λ n c h. open_kept (e.Released d p x) H n c (is_on n H) (i.opens n c h);
    sents = λ y h. genuine_entry y (e.Released d p x) H (counted H) (i.sents y h);
    told = (record { releases = (made, mark); prints = tt; sure = sure_of (e.Released d p x) H i }, i.told);
    printed = i.printed;
    dated = i.dated;
  }

  pub inv_begin : (H : Ledger) → Inv ρ H → Inv ρ (e.Begin ∷ H)
  inv_begin H i = record {
    good = i.good;
    opens = λ n c h. let o = i.opens n c h in record { node = o.node; off = refl; fits = o.fits; range = o.range; sure = sure_kept c e.Begin H o.sure };
    sents = λ x h. genuine_entry x e.Begin H (counted H) (i.sents x h);
    told = (record { releases = tt; prints = tt; sure = sure_of e.Begin H i }, i.told);
    printed = i.printed;
    dated = λ t h. absurd (none-some _ h);
  }

  either_off : (t b : Bool) → b ≡ false → cond t false b ≡ false
  either_off true b h = refl
  either_off false b h = h

  pub inv_down : (H : Ledger) (k : Node) → Inv ρ H → Inv ρ (e.Down k ∷ H)
  inv_down H k i = record {
    good = i.good;
    opens = λ n c h. let o = i.opens n c h in record { node = o.node; off = either_off (same_node k n) (is_on n H) o.off; fits = o.fits; range = o.range; sure = sure_kept c (e.Down k) H o.sure };
    sents = λ x h. genuine_entry x (e.Down k) H (counted H) (i.sents x h);
    told = (record { releases = tt; prints = tt; sure = sure_of (e.Down k) H i }, i.told);
    printed = i.printed;
    dated = i.dated;
  }

  pub inv_sent : (H : Ledger) (bytes : List ℕ) → Genuine bytes H (counted H) → Inv ρ H → Inv ρ (e.Sent bytes ∷ H)
  inv_sent H bytes g i = record {
    good = i.good;
    opens = λ n c h. open_kept (e.Sent bytes) H n c (is_on n H) (i.opens n c h);
    sents = λ x h. genuine_entry x (e.Sent bytes) H (counted H) (⊎_elim (λ (s : bytes ≡ x). subst (λ y. Genuine y H (counted H)) s g) (λ (s : IsSent x H). i.sents x s) h);
    told = (record { releases = tt; prints = tt; sure = sure_of (e.Sent bytes) H i }, i.told);
    printed = i.printed;
    dated = i.dated;
  }

  pub inv_printed : (H : Ledger) (j : ℕ) (x : List ℕ) → held_of j (counted H) ≡ Some x → begun j (counted H) ≡ true → (IsPrinted j H → ⊥) → Inv ρ H → Inv ρ (e.Printed j x ∷ H)
  inv_printed H j x held began new i = record {
    good = i.good;
    opens = λ n c h. open_kept (e.Printed j x) H n c (is_on n H) (i.opens n c h);
    sents = λ y h. genuine_entry y (e.Printed j x) H (counted H) (i.sents y h);
    told = (record { releases = tt; prints = (held, began, new); sure = sure_of (e.Printed j x) H i }, i.told);
    printed = λ k h. ⊎_elim (λ (s : j ≡ k). subst (λ z. begun z (counted H) ≡ true) s began) (λ (s : IsPrinted k H). i.printed k s) h;
    dated = i.dated;
  }

  pub inv_commit : (H : Ledger) (c : Commit) → Fits ρ c (counted H) → is_on (node_of c) H ≡ true → InRange c → Sure c H → Inv ρ H → Inv ρ (e.Commit c ∷ H)
  inv_commit H c f on range sure i = record {
    good = (f, i.good, range);
    opens = λ n o h.
        let was = i.opens n o h in
        let two = apart (node_of c) n H on was.off in
        record {
          node = was.node;
          off = was.off;
          fits = frame ρ o c (counted H) (ap (same_node (node_of c)) was.node ∙ two) was.fits;
          range = was.range;
          sure = sure_kept o (e.Commit c) H was.sure;
        };
    sents = λ x h. genuine_entry x (e.Commit c) H (c ∷ counted H) (genuine_commit x H c (counted H) (i.sents x h));
    told = (record { releases = tt; prints = tt; sure = sure_kept c (e.Commit c) H sure }, i.told);
    printed = λ j h. begun_kept j c (counted H) (i.printed j h);
    dated = i.dated;
  }

  torn_case : (n : Node) (c o : Commit) (t b : Bool) (w : Option Commit) (H : Ledger) → (t ≡ true → node_of c ≡ n) → Fits ρ c (counted H) → InRange c → Sure c H
      → (w ≡ Some o → OpenFits ρ n o b H (counted H)) → cond t (Some c) w ≡ Some o → OpenFits ρ n o (cond t false b) (e.Torn (node_of c) c ∷ H) (counted H)
  torn_case n c o true b w H same f range sure was h = record {
    node = ap node_of (sym (same_Some _ _ h)) ∙ same refl;
    off = refl;
    fits = subst (λ x. Fits ρ x (counted H)) (same_Some _ _ h) f;
    range = subst InRange (same_Some _ _ h) range;
    sure = sure_kept o (e.Torn (node_of c) c) H (subst (λ x. Sure x H) (same_Some _ _ h) sure);
  }
  torn_case n c o false b w H same f range sure was h = open_kept (e.Torn (node_of c) c) H n o b (was h)

  pub inv_torn : (H : Ledger) (c : Commit) → Fits ρ c (counted H) → InRange c → Sure c H → Inv ρ H → Inv ρ (e.Torn (node_of c) c ∷ H)
  inv_torn H c f range sure i = record {
    good = i.good;
    opens = λ n o h. torn_case n c o (same_node (node_of c) n) (is_on n H) (torn_of n H) H (λ t. same_node_true (node_of c) n t) f range sure (i.opens n o) h;
    sents = λ x h. genuine_entry x (e.Torn (node_of c) c) H (counted H) (i.sents x h);
    told = (record { releases = tt; prints = tt; sure = sure_of (e.Torn (node_of c) c) H i }, i.told);
    printed = i.printed;
    dated = i.dated;
  }

  -- == an Up ==

  -- the counted commits after an Up of k: as before, or with its open commit
  Next : Node → Ledger → List Commit → List Commit → Type 0
  Next k H C D = (D ≡ C) ⊎ ((c : Commit) × (D ≡ c ∷ C) × (node_of c ≡ k) × Fits ρ c C × InRange c × Sure c H)

  next_if : (k : Node) (c : Commit) (t : Bool) (H : Ledger) (C : List Commit) → node_of c ≡ k → Fits ρ c C → InRange c → Sure c H → Next k H C (cond t (c ∷ C) C)
  unfolding Next
  next_if k c true H C n f r s = inr (c, refl, n, f, r, s)
  next_if k c false H C n f r s = inl refl

  next : (k : Node) (count : ℕ) (w : Option Commit) (b : Bool) (H : Ledger) (C : List Commit) → ((c : Commit) → w ≡ Some c → OpenFits ρ k c b H C) → Next k H C (at_up w k count C)
  unfolding Next
  next k count None b H C was = inl refl
  next k count (Some c) b H C was = let o = was c refl in next_if k c (count == count_of k C + 1) H C o.node o.fits o.range o.sure

  -- what holds of the commits before, and of each that they may grow to, holds after the Up
  by_next : (k : Node) (H : Ledger) (C D : List Commit) (P : List Commit → Type 0) → P C → ((c : Commit) → node_of c ≡ k → Fits ρ c C → InRange c → Sure c H → P (c ∷ C)) → Next k H C D → P D
  unfolding Next
  by_next k H C D P here more x = ⊎_elim
      (λ (h : D ≡ C). subst P (sym h) here)
      (λ (h : (c : Commit) × (D ≡ c ∷ C) × (node_of c ≡ k) × Fits ρ c C × InRange c × Sure c H). subst P (sym h.1) (more h.0 h.2 h.3 h.4 h.5))
      x

  up_case : (k n : Node) (o : Commit) (t b : Bool) (w : Option Commit) (u : Entry) (H : Ledger) (C D : List Commit) → same_node k n ≡ t → (w ≡ Some o → OpenFits ρ n o b H C) → Next k H C D → cond t None w ≡ Some o → OpenFits ρ n o (cond t true b) (u ∷ H) D
  up_case k n o true b w u H C D is was x h = absurd (none-some _ h)
  up_case k n o false b w u H C D is was x h =
      let it = was h in
      record {
        node = it.node;
        off = it.off;
        fits = by_next k H C D (Fits ρ o) it.fits (λ c own f r s. frame ρ o c C (ap (λ y. same_node y (node_of o)) own ∙ (ap (same_node k) it.node ∙ is)) it.fits) x;
        range = it.range;
        sure = sure_kept o u H it.sure;
      }

  pub inv_up : (H : Ledger) (k : Node) (count : ℕ) → Inv ρ H → Inv ρ (e.Up k count ∷ H)
  inv_up H k count i =
      let C = counted H in
      let D = at_up (torn_of k H) k count C in
      let x : Next k H C D = next k count (torn_of k H) (is_on k H) H C (i.opens k) in
      record {
        good = by_next k H C D (Good ρ) i.good (λ c own f r s. (f, i.good, r)) x;
        opens = λ n o h. up_case k n o (same_node k n) (is_on n H) (torn_of n H) (e.Up k count) H C D refl (i.opens n o) x h;
        sents = λ y h. genuine_entry y (e.Up k count) H D (by_next k H C D (Genuine y H) (i.sents y h) (λ c own f r s. genuine_commit y H c C (i.sents y h)) x);
        told = (
          record {
            releases = tt;
            prints = tt;
            sure = by_next k H C D (NewestSure (e.Up k count ∷ H)) (sure_of (e.Up k count) H i) (λ c own f r s. sure_kept c (e.Up k count) H s) x;
          },
          i.told,
        );
        printed = λ j h. by_next k H C D (λ E. begun j E ≡ true) (i.printed j h) (λ c own f r s. begun_kept j c C (i.printed j h)) x;
        dated = i.dated;
      }
