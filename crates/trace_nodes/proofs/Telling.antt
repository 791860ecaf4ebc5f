-- A line of a call, by the possible results of the call: the replies that it may get are those of these results, and their texts distinguish them.
use Rattle.std.proofs.Common.{◌≡◌, ◌⊎◌, inl, inr, ℕ, Option, Some, None, Bool, true, false, if◌then◌else◌, option_map, refl, sym, ◌∙◌, ap}
use Rattle.bench_base.specs.declared.{words.Node.Node, ledger.Commit.Commit, events.Reply.Reply}
use Rattle.bench_base.specs.declared.events.Reply.TheVariants as r
use Rattle.bench_base.specs.Plans.{Plan, refuse, made}
use Rattle.bench_base.specs.Replies.{ReplyClass, Did, Refused, LostPower, Faulted, class_of}
use Rattle.node_acts.specs.declared.{act.Act.Act, act.Act.TheVariants.Refuse, act.Act.TheVariants.Tell, act.Act.TheVariants.Commits, act.Outcome.Outcome, said.Said.Said}
use Rattle.node_acts.specs.declared.act.Outcome.TheVariants as o
use Rattle.node_acts.specs.Views.{Counting, View}
use Rattle.node_acts.specs.Acts.{commit_of, outcome_in, outcome_of, MayCome}
use Rattle.node_acts.specs.Plans.{IsOfNode, MayFail, done_plan}
use Rattle.node_acts.specs.Said.{tells, IsPlain, seen_plan, said_reply}
use Rattle.node_acts.proofs.Told.{seen_commit, seen_own}
use Rattle.script_text.specs.Texts.{text_of}
use Rattle.trace_nodes.proofs.Openings.{tells_power, tells_fault}

-- == an answer ==

-- it was done, or refused
abbrev pub IsDue : ReplyClass → Type 0
IsDue t = (t ≡ Did) ⊎ (t ≡ Refused)

module _ {S X : Type 0} (n : Counting S X) (m : Node) where
  done_due : (s : S) (act : Act X Reply Said) → IsPlain act → IsDue (class_of (done_plan n m (λ x. x) (λ a. a.reply) tells s act).reply)
  done_due s (Refuse x) plain = inr plain
  done_due s (Tell a) plain = inl plain
  done_due s (Commits c x a) plain = by (n.is_worn s x)
    where
      by : (worn : Bool) → IsDue (class_of (if worn then refuse (r.Worn m) else made a.reply c (tells a)).reply)
      by true = inr refl
      by false = inl plain

  pub seen_due : (v : View S) (act : Act X Reply Said) → IsPlain act → IsDue (class_of (seen_plan n m v act).reply)
  seen_due v act plain = by v.on
    where
      by : (on : Bool) → IsDue (class_of (if on then done_plan n m (λ x. x) (λ a. a.reply) tells v.state act else refuse (r.OffNode m)).reply)
      by true = done_due v.state act plain
      by false = inr refl

  -- == what the call comes to where nothing fails ==

  done_said : (s : S) (act : Act X Reply Said) → said_reply m (outcome_in n s act) ≡ (done_plan n m (λ x. x) (λ a. a.reply) tells s act).reply
  done_said s (Refuse x) = refl
  done_said s (Tell a) = refl
  done_said s (Commits c x a) = by (n.is_worn s x)
    where
      by : (worn : Bool) → said_reply m (if worn then o.Worn else o.Done a) ≡ (if worn then refuse (r.Worn m) else made a.reply c (tells a)).reply
      by true = refl
      by false = refl

  pub seen_said : (v : View S) (act : Act X Reply Said) → said_reply m (outcome_of n v act) ≡ (seen_plan n m v act).reply
  seen_said v act = by v.on
    where
      by : (on : Bool) → said_reply m (if on then outcome_in n v.state act else o.Off) ≡ (if on then done_plan n m (λ x. x) (λ a. a.reply) tells v.state act else refuse (r.OffNode m)).reply
      by true = done_said v.state act
      by false = refl

  -- it is no failure, so the call may come to it
  abbrev pub IsAnswer : Outcome Reply Said → Type 0
  IsAnswer (o.Power c) = ⊥
  IsAnswer (o.Fault c) = ⊥
  IsAnswer _ = Unit {0}

  done_answer : (s : S) (act : Act X Reply Said) → IsAnswer (outcome_in n s act)
  done_answer s (Refuse x) = tt
  done_answer s (Tell a) = tt
  done_answer s (Commits c x a) = by (n.is_worn s x)
    where
      by : (worn : Bool) → IsAnswer (if worn then o.Worn else o.Done a)
      by true = tt
      by false = tt

  pub seen_answer : (v : View S) (act : Act X Reply Said) → IsAnswer (outcome_of n v act)
  seen_answer v act = by v.on
    where
      by : (on : Bool) → IsAnswer (if on then outcome_in n v.state act else o.Off)
      by true = done_answer v.state act
      by false = tt

  pub may_answer : (v : View S) (act : Act X Reply Said) (x : Outcome Reply Said) → IsAnswer x → x ≡ outcome_of n v act → MayCome n v act x
  may_answer v act o.Off answer is = is
  may_answer v act (o.Refused y) answer is = is
  may_answer v act (o.Done a) answer is = is
  may_answer v act o.Worn answer is = is
  may_answer v act (o.Power c) answer is = absurd answer
  may_answer v act (o.Fault c) answer is = absurd answer

  -- == each reply is that of something that it may come to ==

  module _ (v : View S) (act : Act X Reply Said) (own : IsOfNode m act) (plain : IsPlain act) where
    abbrev pub p : Plan
    p = seen_plan n m v act

    abbrev pub ComesAs : Reply → Type 0
    ComesAs reply = (x : Outcome Reply Said) × MayCome n v act x × (said_reply m x ≡ reply)

    pub no_up : (i : Node) (k : ℕ) → p.reply ≡ r.Up i k → ⊥
    no_up i k is = elim (seen_due v act plain) [
      | inl did ↦ let t : class_of (r.Up i k) ≡ Did = sym (ap class_of is) ∙ did in cc
      | inr refused ↦ let t : class_of (r.Up i k) ≡ Refused = sym (ap class_of is) ∙ refused in cc
    ]

    -- the commit of the plan is that of the act
    torn_by : (c : Commit) (o : Option (Commit × S)) → option_map (λ (x : Commit × S). x.0) o ≡ Some c → (s : S) × (o ≡ Some (c, s))
    torn_by c None is = cc
    torn_by c (Some x) is = let same : x.0 ≡ c = cc in (x.1, ap (λ (d : Commit). Some (d, x.1)) same)

    torn : (c : Commit) → p.commit ≡ Some c → (s : S) × (commit_of n v act ≡ Some (c, s))
    torn c is = torn_by c (commit_of n v act) (sym (seen_commit n m v act) ∙ is)

    pub by_power : (i : Node) → MayFail p i → ComesAs (r.Power i)
    by_power i (inl up) = absurd (no_up i up.0 up.1)
    by_power i (inr made) =
        let open_one = torn made.0 made.1 in
        (o.Power made.0, open_one, ap r.Power (sym (seen_own n m v act (made.0, open_one.0) own open_one.1).0 ∙ made.2))

    pub by_fault : (i : Node) → MayFail p i → ComesAs (r.Fault i)
    by_fault i (inl up) = absurd (no_up i up.0 up.1)
    by_fault i (inr made) =
        let open_one = torn made.0 made.1 in
        (o.Fault made.0, open_one, ap r.Fault (sym (seen_own n m v act (made.0, open_one.0) own open_one.1).0 ∙ made.2))

    -- == texts distinguish them ==

    -- what it may come to is the answer, or a failure
    no_power : (i : Node) (k : Node) → class_of p.reply ≡ LostPower i → ⊥
    no_power i k lost = elim (seen_due v act plain) [
      | inl did ↦ let t : LostPower i ≡ Did = sym lost ∙ did in cc
      | inr refused ↦ let t : LostPower i ≡ Refused = sym lost ∙ refused in cc
    ]

    no_fault : (i : Node) → class_of p.reply ≡ Faulted i → ⊥
    no_fault i struck = elim (seen_due v act plain) [
      | inl did ↦ let t : Faulted i ≡ Did = sym struck ∙ did in cc
      | inr refused ↦ let t : Faulted i ≡ Refused = sym struck ∙ refused in cc
    ]

    pub data Kind (x : Outcome Reply Said) : Type 0 where
      answered : said_reply m x ≡ p.reply → Kind x
      powered : said_reply m x ≡ r.Power m → Kind x
      faulted : said_reply m x ≡ r.Fault m → Kind x

    answer_kind : (x : Outcome Reply Said) → x ≡ outcome_of n v act → Kind x
    answer_kind x is = answered (ap (said_reply m) is ∙ seen_said v act)

    pub kind : (x : Outcome Reply Said) → MayCome n v act x → Kind x
    kind o.Off may = answer_kind o.Off may
    kind (o.Refused y) may = answer_kind (o.Refused y) may
    kind (o.Done a) may = answer_kind (o.Done a) may
    kind o.Worn may = answer_kind o.Worn may
    kind (o.Power c) may = powered refl
    kind (o.Fault c) may = faulted refl

    power_is_no_answer : text_of p.reply ≡ text_of (r.Power m) → ⊥
    power_is_no_answer is = let t = tells_power p.reply m is in no_power t.0 m t.1

    fault_is_no_answer : text_of p.reply ≡ text_of (r.Fault m) → ⊥
    fault_is_no_answer is = let t = tells_fault p.reply m is in no_fault t.0 t.1

    power_is_no_fault : text_of (r.Power m) ≡ text_of (r.Fault m) → ⊥
    power_is_no_fault is = let t = tells_fault (r.Power m) m is in cc (t.1)

    pub same_reply : (x y : Outcome Reply Said) → Kind x → Kind y → text_of (said_reply m x) ≡ text_of (said_reply m y) → said_reply m x ≡ said_reply m y
    same_reply x y (answered a) (answered b) is = a ∙ sym b
    same_reply x y (answered a) (powered b) is = absurd (power_is_no_answer (sym (ap text_of a) ∙ is ∙ ap text_of b))
    same_reply x y (answered a) (faulted b) is = absurd (fault_is_no_answer (sym (ap text_of a) ∙ is ∙ ap text_of b))
    same_reply x y (powered a) (answered b) is = absurd (power_is_no_answer (sym (ap text_of b) ∙ sym is ∙ ap text_of a))
    same_reply x y (powered a) (powered b) is = a ∙ sym b
    same_reply x y (powered a) (faulted b) is = absurd (power_is_no_fault (sym (ap text_of a) ∙ is ∙ ap text_of b))
    same_reply x y (faulted a) (answered b) is = absurd (fault_is_no_answer (sym (ap text_of b) ∙ sym is ∙ ap text_of a))
    same_reply x y (faulted a) (powered b) is = absurd (power_is_no_fault (sym (ap text_of b) ∙ sym is ∙ ap text_of a))
    same_reply x y (faulted a) (faulted b) is = a ∙ sym b
