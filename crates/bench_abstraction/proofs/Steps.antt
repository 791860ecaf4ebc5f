-- What can become of an event of a node: its answer, the commit that it makes, and the ledger afterwards. The node is m, of
-- any kind; its record after some commits is as seen says.
use Rattle.std.proofs.Common.{◌≡◌, ℕ, Bool, true, false, List, [], ◌∷◌, ◌++◌, Option, Some, None, cond, refl, sym, ap, subst, ◌∙◌, ◌⊎◌, inl, inr, ⊎_elim}
use Rattle.std.specs.Prelude.{◌+◌}
use Rattle.std.proofs.lemmas.Option.{none-some, same_Some}
use Rattle.bench_base.specs.declared.{words.Node.Node, ledger.Commit.Commit, ledger.Entry.Entry, events.Reply.Reply}
use Rattle.bench_base.specs.declared.ledger.Entry.TheVariants as entry
use Rattle.bench_base.specs.declared.events.Reply.TheVariants as r
use Rattle.bench_base.specs.Nodes.{node_of}
use Rattle.bench_base.specs.Plans.{Plan, refuse, made, told}
use Rattle.bench_base.specs.Replies.{ReplyClass, Did, Refused, Armed, LostPower, Faulted, PrinterFailed, class_of}
use Rattle.bench_base.specs.Ledger.{Ledger, is_on, counted}
use Rattle.node_acts.specs.declared.{act.Act.Act, act.Act.TheVariants.Refuse, act.Act.TheVariants.Tell, act.Act.TheVariants.Commits, said.Said.Said, said.GivenOut.GivenOut, said.GivenOut.TheVariants.Released, said.GivenOut.TheVariants.Printed}
use Rattle.node_acts.specs.Said.{saying, seen_plan, tells, with_sent, with_given}
use Rattle.node_acts.specs.Views.{Counting, View, committed, torn}
use Rattle.node_acts.specs.Acts.{commit_in, commit_of, OfCommit}
use Rattle.node_acts.specs.Plans.{with_commit, after, after_told, Fails, FailsTold, MayFail, MayReply, done_plan, view_after, view_told}
use Rattle.node_acts.specs.Kinds.{view_in}

-- entries that report what was done
abbrev pub AreTold : List Entry → Type 0
AreTold [] = Unit {0}
AreTold (entry.Released d piece mark ∷ T) = AreTold T
AreTold (entry.Sent note ∷ T) = AreTold T
AreTold (entry.Printed job mark ∷ T) = AreTold T
AreTold (_ ∷ T) = ⊥

-- what a node says is such entries
pub said_told : (given : Option GivenOut) (sent : Option (List ℕ)) → AreTold (with_sent sent ++ with_given given)
said_told None None = tt
said_told None (Some note) = tt
said_told (Some (Released x)) None = tt
said_told (Some (Released x)) (Some note) = tt
said_told (Some (Printed x)) None = tt
said_told (Some (Printed x)) (Some note) = tt

-- for the node m and the ledger H: the answer, the commit with the record after it, and the ledger afterwards
pub data Step {S X : Type 0} (n : Counting S X) (m : Node) (seen : List Commit → S) (H : Ledger) : Reply → Option (Commit × S) → Ledger → Type 0 where
  does_tell : {x : Reply} (T : List Entry) → AreTold T → ((v : View S) → view_after n x None v ≡ v) → Step n m seen H x None (T ++ H)
  does : {x : Reply} (T : List Entry) (c : Commit) (s : S) → AreTold T → ((v : View S) → view_after n x (Some (c, s)) v ≡ committed s v) → is_on m H ≡ true
      → node_of c ≡ m → seen (c ∷ counted H) ≡ s → Step n m seen H x (Some (c, s)) (T ++ (entry.Commit c ∷ H))
  tears : {x : Reply} (c : Commit) (s : S) → ((v : View S) → view_after n x (Some (c, s)) v ≡ torn s v)
      → node_of c ≡ m → seen (c ∷ counted H) ≡ s → Step n m seen H x (Some (c, s)) (entry.Torn m c ∷ H)
  boots : (k : ℕ) → Step n m seen H (r.Up m k) None (entry.Up m k ∷ H)
  stops : Step n m seen H (r.Down m) None (entry.Down m ∷ H)

-- == answers ==

-- the reply reports only that the request was done, or that it was refused
abbrev pub IsPlain : ReplyClass → Type 0
IsPlain Did = Unit {0}
IsPlain Refused = Unit {0}
IsPlain (Armed n) = Unit {0}
IsPlain _ = ⊥

plain_after : (t : ReplyClass) (p : Plan) (H : Ledger) → IsPlain t → after_told p t H ≡ p.after ++ with_commit p.commit H
plain_after Did p H h = refl
plain_after Refused p H h = refl
plain_after (Armed n) p H h = refl
plain_after _ p H h = absurd h

plain_still : {S X : Type 0} (n : Counting S X) (t : ReplyClass) (v : View S) → IsPlain t → view_told n t None v ≡ v
plain_still n Did v h = refl
plain_still n Refused v h = refl
plain_still n (Armed m) v h = refl
plain_still n _ v h = absurd h

abbrev pub IsQuiet : Reply → Type 0
IsQuiet y = IsPlain (class_of y)

-- what is said reports that the request was done
abbrev pub IsSaid : Said → Type 0
IsSaid a = class_of a.reply ≡ Did

-- so what an act says, or refuses
abbrev pub IsQuietAct : {X : Type 0} → Act X Reply Said → Type 0
IsQuietAct (Refuse x) = IsQuiet x
IsQuietAct (Tell a) = IsSaid a
IsQuietAct (Commits c x a) = IsSaid a

pub quiet_says : {X F A : Type 0} (refusal : F → Reply) (say : A → Said) → ((x : F) → IsQuiet (refusal x)) → ((a : A) → IsSaid (say a)) → (act : Act X F A) → IsQuietAct (saying refusal say act)
quiet_says refusal say refuses says (Refuse x) = refuses x
quiet_says refusal say refuses says (Tell a) = says a
quiet_says refusal say refuses says (Commits c x a) = says a

-- the plan of a node that is on, by its act
abbrev pub by_act : {S X : Type 0} → Counting S X → Node → S → Act X Reply Said → Plan
by_act n m s act = done_plan n m (λ x. x) (λ a. a.reply) tells s act

-- == failures ==

-- the commit fails
record Failed (p : Plan) (x : Reply) : Type 0 where
  n : Node
  c : Commit
  is : p.commit ≡ Some c
  own : node_of c ≡ n
  how : (class_of x ≡ LostPower n) ⊎ (class_of x ≡ Faulted n)

-- the printer fails after the commit
abbrev PrinterFails : Reply → Type 0
PrinterFails x = (j : ℕ) × (class_of x ≡ PrinterFailed j)

module _ (p : Plan) (x : Reply) (no_up : (n : Node) (k : ℕ) → p.reply ≡ r.Up n k → ⊥) where
  failing : (n : Node) → (class_of x ≡ LostPower n) ⊎ (class_of x ≡ Faulted n) → MayFail p n → Failed p x
  failing n how may = ⊎_elim
      (λ (h : (k : ℕ) × (p.reply ≡ r.Up n k)). absurd (no_up n h.0 h.1))
      (λ (h : (c : Commit) × (p.commit ≡ Some c) × (node_of c ≡ n)). record { n = n; c = h.0; is = h.1; own = h.2; how = how })
      may

  failed_told : (t : ReplyClass) → class_of x ≡ t → FailsTold p t → Failed p x ⊎ PrinterFails x
  failed_told (LostPower n) is h = inl (failing n (inl is) h)
  failed_told (Faulted n) is h = inl (failing n (inr is) h)
  failed_told (PrinterFailed j) is h = inr (j, is)
  failed_told _ is h = absurd h

  failed : Fails p x → Failed p x ⊎ PrinterFails x
  failed h = failed_told (class_of x) refl h

module _ {S X : Type 0} (n : Counting S X) (m : Node) (seen : List Commit → S) (H : Ledger) where
  -- the reply is one that the event of this plan may get
  abbrev pub Gets : Plan → Reply → Type 0
  Gets p x = MayReply n m (view_in m seen H) p x

  abbrev pub Goes : Reply → Option (Commit × S) → Ledger → Type 0
  Goes x made new = Step n m seen H x made new

  no_boot : (y : Reply) → IsPlain (class_of y) → (i : Node) (k : ℕ) → y ≡ r.Up i k → ⊥
  no_boot y plain i k e = subst (λ (z : Reply). IsPlain (class_of z)) e plain

  -- the reply of the plan itself
  by_answer : (x y : Reply) (p : Plan) (made : Option (Commit × S)) → x ≡ y → IsPlain (class_of y) → Goes y made (p.after ++ with_commit p.commit H) → Goes x made (after p x H)
  by_answer x y p made is plain goes = subst (λ (z : Reply). Goes z made (after p z H)) (sym is) (subst (Goes y made) (sym (plain_after (class_of y) p H plain)) goes)

  -- if the printer fails nothing is reported, and the commit is as it is
  unprinted : (x : Reply) (p : Plan) → p.commit ≡ None → PrinterFails x → Goes x None (after p x H)
  unprinted x p none (j, is) = subst (λ (t : ReplyClass). Goes x None (after_told p t H)) (sym is)
      (subst (λ (o : Option Commit). Goes x None (with_commit o H)) (sym none) (does_tell [] tt (λ v. ap (λ (t : ReplyClass). view_told n t None v) is)))

  silent : (x : Reply) (p : Plan) → p.commit ≡ None → Failed p x ⊎ PrinterFails x → Goes x None (after p x H)
  silent x p none (inl f) = absurd (none-some _ (sym none ∙ f.is))
  silent x p none (inr f) = unprinted x p none f

  pub tells_plain : (x y : Reply) (T : List Entry) → IsQuiet y → AreTold T → Gets (told y T) x → Goes x None (after (told y T) x H)
  tells_plain x y T quiet are (inl h) = by_answer x y (told y T) None h quiet (does_tell T are (λ v. plain_still n (class_of y) v quiet))
  tells_plain x y T quiet are (inr (inl o)) = absurd (no_boot y quiet m (n.count (seen (counted H))) o.0)
  tells_plain x y T quiet are (inr (inr f)) = silent x (told y T) refl (failed (told y T) x (no_boot y quiet) f)

  torn_still : (t : ReplyClass) (i : Node) (c : Commit) (s : S) (v : View S) → (t ≡ LostPower i) ⊎ (t ≡ Faulted i) → view_told n t (Some (c, s)) v ≡ torn s v
  torn_still t i c s v (inl is) = ap (λ (z : ReplyClass). view_told n z (Some (c, s)) v) is
  torn_still t i c s v (inr is) = ap (λ (z : ReplyClass). view_told n z (Some (c, s)) v) is

  torn_after : (t : ReplyClass) (i : Node) (y : Reply) (c : Commit) (T : List Entry) → i ≡ m → (t ≡ LostPower i) ⊎ (t ≡ Faulted i) → after_told (made y c T) t H ≡ entry.Torn m c ∷ H
  torn_after t i y c T at (inl is) = ap (λ (z : ReplyClass). after_told (made y c T) z H) is ∙ ap (λ (z : Node). entry.Torn z c ∷ H) at
  torn_after t i y c T at (inr is) = ap (λ (z : ReplyClass). after_told (made y c T) z H) is ∙ ap (λ (z : Node). entry.Torn z c ∷ H) at

  makes : (x y : Reply) (c : Commit) (s : S) (T : List Entry) → class_of y ≡ Did → AreTold T → is_on m H ≡ true → node_of c ≡ m → seen (c ∷ counted H) ≡ s
      → Gets (made y c T) x → Goes x (Some (c, s)) (after (made y c T) x H)
  makes x y c s T did are on own is (inl h) =
      by_answer x y (made y c T) (Some (c, s)) h (subst IsPlain (sym did) tt) (does T c s are (λ v. ap (λ (t : ReplyClass). view_told n t (Some (c, s)) v) did) on own is)
  makes x y c s T did are on own is (inr (inl o)) = absurd (no_boot y (subst IsPlain (sym did) tt) m (n.count (seen (counted H))) o.0)
  makes x y c s T did are on own is (inr (inr f)) = by (failed (made y c T) x (no_boot y (subst IsPlain (sym did) tt)) f)
    where
      by : Failed (made y c T) x ⊎ PrinterFails x → Goes x (Some (c, s)) (after (made y c T) x H)
      by (inl g) =
          let at : g.n ≡ m = sym g.own ∙ ap node_of (sym (same_Some _ _ g.is)) ∙ own in
          subst (λ (new : Ledger). Goes x (Some (c, s)) new) (sym (torn_after (class_of x) g.n y c T at g.how)) (tears c s (λ v. torn_still (class_of x) g.n c s v g.how) own is)
      by (inr g) = subst (λ (t : ReplyClass). Goes x (Some (c, s)) (after_told (made y c T) t H)) (sym g.1) (does [] c s tt (λ v. ap (λ (t : ReplyClass). view_told n t (Some (c, s)) v) g.1) on own is)

  -- == a call, by its act ==

  -- the commit is the node's, and its record follows from it where it can be made
  abbrev pub IsRight : {F A : Type 0} → Act X F A → Type 0
  IsRight = OfCommit (λ c y. (node_of c ≡ m) × (is_on m H ≡ true → n.is_worn (seen (counted H)) y ≡ false → seen (c ∷ counted H) ≡ n.after (seen (counted H)) y))

  worn_quiet : IsQuiet (r.Worn m)
  worn_quiet = tt

  off_quiet : IsQuiet (r.OffNode m)
  off_quiet = tt

  commits : (worn : Bool) (c : Commit) (s : S) (a : Said) (x : Reply) → IsSaid a → is_on m H ≡ true → node_of c ≡ m → (worn ≡ false → seen (c ∷ counted H) ≡ s)
      → Gets (cond worn (refuse (r.Worn m)) (made a.reply c (tells a))) x
      → Goes x (cond worn None (Some (c, s))) (after (cond worn (refuse (r.Worn m)) (made a.reply c (tells a))) x H)
  commits true c s a x said on own is may = tells_plain x (r.Worn m) [] worn_quiet tt may
  commits false c s a x said on own is may = makes x a.reply c s (tells a) said (said_told a.given a.sent) on own (is refl) may

  acts_on : (act : Act X Reply Said) (x : Reply) → IsQuietAct act → IsRight act → is_on m H ≡ true → Gets (by_act n m (seen (counted H)) act) x
      → Goes x (commit_in n (seen (counted H)) act) (after (by_act n m (seen (counted H)) act) x H)
  acts_on (Refuse y) x quiet right on may = tells_plain x y [] quiet tt may
  acts_on (Tell a) x quiet right on may = tells_plain x a.reply (tells a) (subst IsPlain (sym quiet) tt) (said_told a.given a.sent) may
  acts_on (Commits c y a) x quiet right on may = commits (n.is_worn (seen (counted H)) y) c (n.after (seen (counted H)) y) a x quiet on right.0 (right.1 on) may

  acts_by : (on : Bool) (act : Act X Reply Said) (x : Reply) → IsQuietAct act → IsRight act → is_on m H ≡ on → Gets (cond on (by_act n m (seen (counted H)) act) (refuse (r.OffNode m))) x
      → Goes x (cond on (commit_in n (seen (counted H)) act) None) (after (cond on (by_act n m (seen (counted H)) act) (refuse (r.OffNode m))) x H)
  acts_by true act x quiet right is may = acts_on act x quiet right is may
  acts_by false act x quiet right is may = tells_plain x (r.OffNode m) [] off_quiet tt may

  pub acts : (act : Act X Reply Said) (x : Reply) → IsQuietAct act → IsRight act → Gets (seen_plan n m (view_in m seen H) act) x
      → Goes x (commit_of n (view_in m seen H) act) (after (seen_plan n m (view_in m seen H) act) x H)
  acts act x quiet right may = acts_by (is_on m H) act x quiet right refl may

  -- == the node that boots, and the one that stops ==

  abbrev boot_plan : Plan
  boot_plan = told (r.Up m (n.count (seen (counted H)))) (entry.Up m (n.count (seen (counted H))) ∷ [])

  abbrev stop_plan : Plan
  stop_plan = told (r.Down m) (entry.Down m ∷ [])

  boot_may : (k : ℕ) (x : Reply) → x ≡ r.Up m k → Goes x None (after boot_plan x H)
  boot_may k x h = subst (λ z. Goes z None (after boot_plan z H)) (sym h) (boots k)

  boot_fails : (x : Reply) (t : ReplyClass) → class_of x ≡ t → FailsTold boot_plan t → Goes x None (after_told boot_plan t H)
  boot_fails x (LostPower i) is h = does_tell [] tt (λ v. ap (λ (t : ReplyClass). view_told n t None v) is)
  boot_fails x (Faulted i) is h = does_tell [] tt (λ v. ap (λ (t : ReplyClass). view_told n t None v) is)
  boot_fails x (PrinterFailed j) is h = cc
  boot_fails x _ is h = absurd h

  pub turns_on : (on : Bool) (x : Reply) → Gets (cond on (refuse (r.OnAlready m)) boot_plan) x → Goes x None (after (cond on (refuse (r.OnAlready m)) boot_plan) x H)
  turns_on true x may = tells_plain x (r.OnAlready m) [] tt tt may
  turns_on false x (inl h) = boot_may (n.count (seen (counted H))) x h
  turns_on false x (inr (inl o)) = boot_may (n.count (seen (counted H)) + 1) x o.2
  turns_on false x (inr (inr f)) = boot_fails x (class_of x) refl f

  pub turns_off : (on : Bool) (x : Reply) → Gets (cond on stop_plan (refuse (r.OffNode m))) x → Goes x None (after (cond on stop_plan (refuse (r.OffNode m))) x H)
  turns_off true x (inl h) = subst (λ z. Goes z None (after stop_plan z H)) (sym h) stops
  turns_off true x (inr (inl o)) = let e = o.0 in cc
  turns_off true x (inr (inr f)) = silent x stop_plan refl (failed stop_plan x (λ i k e. cc) f)
  turns_off false x may = tells_plain x (r.OffNode m) [] tt tt may

  pub cuts : (x : Reply) → Gets (refuse (r.CutSet m)) x → Goes x None (after (refuse (r.CutSet m)) x H)
  cuts x may = tells_plain x (r.CutSet m) [] tt tt may
