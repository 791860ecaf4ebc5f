-- Departments do not see each other's quotas and postage.
use Rattle.std.proofs.Common.{◌≡◌, ◌⊎◌, inl, inr, ℕ, ◌+◌, ◌-◌, ◌<◌, List, [], ◌∷◌, Option, Some, None, Bool, true, false, ◌==◌, sym, ap, ◌∙◌, subst, arith, true≢false}
use Rattle.std.specs.Prelude.{codes, nat_lt, is_some}
use Rattle.std.proofs.lemmas.Bool.{cases_order}
use Rattle.bench_base.specs.declared.sizes.TheConstants.{MOST_COMMITS}
use Rattle.node_acts.specs.RowList.{row_at, row_of, is_worn, commits_at}
use Rattle.node_turns.specs.Turns.{sent_in}
use Rattle.node_turns.specs.declared.turn.Turn.{Turn}
use Rattle.script_text.specs.Texts.{text_of}
use Rattle.host_departments.specs.Answers.{Answered, IsTold, IsCommitted, IsQuotaTold, IsTakenIn, IsLimited, IsSent, IsAssignTold, ByQuota, IsAnswered}
use Rattle.host_departments.specs.Moves.{Either}
use Rattle.host_departments.specs.Heard.{IsTaken}
use Rattle.host_departments.specs.Isolation.{IsLineOf, IsSameFor, IsSameHeard, AreSameHeard, AreIsolated}
use Rattle.host_departments.specs.Rows.{Rows, row_in, quota, quota_in, spent, postage_at, postage_in, job_in, first_cell, Has, HasJobs}
use Rattle.host_departments.specs.Texts.{numbered, quota_text, assigned_text, again_text, spent_text}
use Rattle.host_departments.specs.declared.{row.DepartmentLine.DepartmentLine, row.DepartmentLine.TheVariants.Quota, row.DepartmentLine.TheVariants.Assign, row.DepartmentLine.TheVariants.Spent, row.DepartmentLine.TheVariants.Print, row.DepartmentRow.DepartmentRow}
use Rattle.host_departments.specs.declared.row.DepartmentRow.TheVariants as row
use Rattle.host_departments.proofs.Places.{one_count}
use Rattle.host_departments.proofs.Sums.{sum_same}

-- == the texts of an answer ==

-- the texts of a commit, by whether its cell is worn
abbrev Committed : Bool → List ℕ → List (List ℕ) → Type 0
Committed worn text texts = ((worn ≡ true) × (texts ≡ codes "worn desk" ∷ [])) ⊎ ((worn ≡ false) × (texts ≡ text ∷ []))

commit_texts : (k : ℕ) (x : DepartmentRow) (text : List ℕ) (rows : Rows) (a : Answered) → IsCommitted k x text rows a → Committed (is_worn rows k) text a.texts
commit_texts k x text rows a (inl worn) = inl (worn.0, worn.1)
commit_texts k x text rows a (inr done) = inr (done.0, done.1)

same_commit : (worn : Bool) (text : List ℕ) (ts us : List (List ℕ)) → Committed worn text ts → Committed worn text us → us ≡ ts
same_commit worn text ts us (inl a) (inl b) = b.1 ∙ sym a.1
same_commit worn text ts us (inl a) (inr b) = absurd (true≢false (sym a.0 ∙ b.0))
same_commit worn text ts us (inr a) (inl b) = absurd (true≢false (sym b.0 ∙ a.0))
same_commit worn text ts us (inr a) (inr b) = b.1 ∙ sym a.1

same_told : (text : List ℕ) (rows other : Rows) (a b : Answered) → IsTold text rows a → IsTold text other b → b.texts ≡ a.texts
same_told text rows other a b told told' = told'.texts ∙ sym told.texts

one_postage : (j : ℕ) (turn : Turn) (p q : ℕ) → IsTaken j turn.reply (sent_in turn.entries) p → IsTaken j turn.reply (sent_in turn.entries) q → p ≡ q
one_postage j turn p q is is' = let same : Some p ≡ Some q = sym is.postage ∙ is'.postage in cc

-- == what a department sees ==

module _ (d : ℕ) (rows other : Rows) (same : IsSameFor d rows other) where
  same_quota : quota other d ≡ quota rows d
  same_quota = ap (λ (o : Option (ℕ × DepartmentRow)). quota_in (row_of o)) same.quota

  same_place : (i : ℕ) → i < 64 → row_in other (first_cell d + i) ≡ row_in rows (first_cell d + i)
  same_place i lt = ap (λ (o : Option (ℕ × DepartmentRow)). row_of o) (same.jobs i lt)

  same_spent : spent other d ≡ spent rows d
  same_spent = sum_same 64 (postage_at other d) (postage_at rows d) (λ i lt. ap (λ (o : Option DepartmentRow). postage_in o) (same_place i lt))

  same_worn : (k : ℕ) → row_at other k ≡ row_at rows k → is_worn other k ≡ is_worn rows k
  same_worn k is = ap (λ (o : Option (ℕ × DepartmentRow)). commits_at o == MOST_COMMITS) is

  there : (j : ℕ) → Has rows d j → Has other d j
  there j has = record { place = has.place; inside = has.inside; kept = ap (λ (o : Option DepartmentRow). job_in o) (same_place has.place has.inside) ∙ has.kept }

  back : (j : ℕ) → Has other d j → Has rows d j
  back j has = record { place = has.place; inside = has.inside; kept = ap (λ (o : Option DepartmentRow). job_in o) (sym (same_place has.place has.inside)) ∙ has.kept }

  jobs_back : (n : ℕ) → HasJobs other d n → HasJobs rows d n
  jobs_back n jobs = record {
    few = jobs.few;
    filled = λ i lt. let few = jobs.few in ap (λ (o : Option DepartmentRow). is_some o) (sym (same_place i (omega (arith, lt, few)))) ∙ jobs.filled i lt;
    blank = λ lt. sym (same_place n lt) ∙ jobs.blank lt;
  }

  jobs_there : (n : ℕ) → HasJobs rows d n → HasJobs other d n
  jobs_there n jobs = record {
    few = jobs.few;
    filled = λ i lt. let few = jobs.few in ap (λ (o : Option DepartmentRow). is_some o) (same_place i (omega (arith, lt, few))) ∙ jobs.filled i lt;
    blank = λ lt. same_place n lt ∙ jobs.blank lt;
  }

  module _ (a b : Answered) where
    -- == a quota ==

    quota_by : (q s : ℕ) (w : Bool) (t : Bool) → Either t (a.texts ≡ numbered (codes "refused dept below spent") s ∷ []) (Committed w (quota_text d q) a.texts)
        → Either t (b.texts ≡ numbered (codes "refused dept below spent") s ∷ []) (Committed w (quota_text d q) b.texts) → b.texts ≡ a.texts
    quota_by q s w true below below' = below' ∙ sym below
    quota_by q s w false did did' = same_commit w (quota_text d q) a.texts b.texts did did'

    quota_texts : (q : ℕ) (x : Answered) (kept : Rows) (t : Bool)
        → Either t (IsTold (numbered (codes "refused dept below spent") (spent kept d)) kept x) ((x.asked ≡ []) × IsCommitted (d - 1) (row.Quota q) (quota_text d q) kept x)
        → Either t (x.texts ≡ numbered (codes "refused dept below spent") (spent kept d) ∷ []) (Committed (is_worn kept (d - 1)) (quota_text d q) x.texts)
    quota_texts q x kept true told = told.texts
    quota_texts q x kept false did = commit_texts (d - 1) (row.Quota q) (quota_text d q) kept x did.1

    quota_same : (q : ℕ) → IsQuotaTold d q rows a → IsQuotaTold d q other b → b.texts ≡ a.texts
    quota_same q told told' =
        quota_by q (spent rows d) (is_worn rows (d - 1)) (nat_lt q (spent rows d)) (quota_texts q a rows (nat_lt q (spent rows d)) told)
        (subst (λ (s : ℕ). Either (nat_lt q s) (b.texts ≡ numbered (codes "refused dept below spent") s ∷ []) (Committed (is_worn rows (d - 1)) (quota_text d q) b.texts)) same_spent
        (subst (λ (w : Bool). Either (nat_lt q (spent other d)) (b.texts ≡ numbered (codes "refused dept below spent") (spent other d) ∷ []) (Committed w (quota_text d q) b.texts)) (same_worn (d - 1) same.quota)
        (quota_texts q b other (nat_lt q (spent other d)) told')))

    -- == a job ==

    one_place : (n m : ℕ) → HasJobs rows d n → HasJobs rows d m → n ≡ m
    one_place n m jobs jobs' = elim (cases_order n m) [
      | inl is ↦ is
      | inr apart ↦ elim apart [
        | inl lt ↦ absurd (one_count rows d n m jobs jobs' lt)
        | inr gt ↦ absurd (one_count rows d m n jobs' jobs gt)
      ]
    ]

    taken_same : (j p left : ℕ) → IsTakenIn d j p left rows a → IsTakenIn d j p left other b → b.texts ≡ a.texts
    taken_same j p left taken taken' =
        let place : taken'.place ≡ taken.place = one_place taken'.place taken.place (jobs_back taken'.place taken'.jobs) taken.jobs in
        let text = assigned_text j d (left - p) in
        same_commit (is_worn rows (first_cell d + taken.place)) text a.texts b.texts
        (commit_texts (first_cell d + taken.place) (row.Job j p) text rows a taken.is)
        (subst (λ (n : ℕ). Committed (is_worn rows (first_cell d + n)) text b.texts) place
        (subst (λ (w : Bool). Committed w text b.texts) (same_worn (first_cell d + taken'.place) (same.jobs taken'.place taken'.room))
        (commit_texts (first_cell d + taken'.place) (row.Job j p) text other b taken'.is)))

    limited_by : (j p left : ℕ) (t : Bool) → Either t ((a.texts ≡ numbered (codes "refused dept quota") left ∷ []) × (a.after ≡ rows)) (IsTakenIn d j p left rows a)
        → Either t ((b.texts ≡ numbered (codes "refused dept quota") left ∷ []) × (b.after ≡ other)) (IsTakenIn d j p left other b) → b.texts ≡ a.texts
    limited_by j p left true over over' = over'.0 ∙ sym over.0
    limited_by j p left false taken taken' = taken_same j p left taken taken'

    limited_same : (j p left : ℕ) → IsLimited d j p left rows a → IsLimited d j p left other b → b.texts ≡ a.texts
    limited_same j p left did did' = limited_by j p left (nat_lt left p) did did'

    sent_same : (j q : ℕ) → AreSameHeard a.asked b.asked → IsSent d j q rows a → IsSent d j q other b → b.texts ≡ a.texts
    sent_same j q heard sent sent' = by_postage (heard j sent.turn sent'.turn sent.only sent'.only) sent.did sent'.did
      where
        by_postage : IsSameHeard j sent.turn sent'.turn
            → ((p : ℕ) × IsTaken j sent.turn.reply (sent_in sent.turn.entries) p × IsLimited d j p (q - spent rows d) rows a)
            ⊎ (((p : ℕ) → IsTaken j sent.turn.reply (sent_in sent.turn.entries) p → ⊥) × (a.texts ≡ text_of sent.turn.reply ∷ []) × (a.after ≡ rows))
            → ((p : ℕ) × IsTaken j sent'.turn.reply (sent_in sent'.turn.entries) p × IsLimited d j p (q - spent other d) other b)
            ⊎ (((p : ℕ) → IsTaken j sent'.turn.reply (sent_in sent'.turn.entries) p → ⊥) × (b.texts ≡ text_of sent'.turn.reply ∷ []) × (b.after ≡ other))
            → b.texts ≡ a.texts
        by_postage same_heard (inl did) (inl did') =
            let postage : did'.0 ≡ did.0 = one_postage j sent'.turn did'.0 did.0 did'.1 ((same_heard.postage did.0).0 did.1) in
            limited_same j did.0 (q - spent rows d) did.2
            (subst (λ (p : ℕ). IsLimited d j p (q - spent rows d) other b) postage
            (subst (λ (s : ℕ). IsLimited d j did'.0 (q - s) other b) same_spent did'.2))
        by_postage same_heard (inl did) (inr did') = absurd (did'.0 did.0 ((same_heard.postage did.0).0 did.1))
        by_postage same_heard (inr did) (inl did') = absurd (did.0 did'.0 ((same_heard.postage did'.0).1 did'.1))
        by_postage same_heard (inr did) (inr did') = did'.1 ∙ ap (λ (t : List ℕ). t ∷ []) same_heard.text ∙ sym did.1

    assign_same : (j q : ℕ) → AreSameHeard a.asked b.asked → IsAssignTold d j q rows a → IsAssignTold d j q other b → b.texts ≡ a.texts
    assign_same j q heard (inl again) (inl again') = same_told (again_text j d) rows other a b again.1 again'.1
    assign_same j q heard (inl again) (inr rest) = absurd (rest.0 (there j again.0))
    assign_same j q heard (inr rest) (inl again) = absurd (rest.0 (back j again.0))
    assign_same j q heard (inr (not_here, inl taken)) (inr (not_here', inl taken')) = same_told (numbered (codes "refused dept assigned") j) rows other a b taken.1 taken'.1
    assign_same j q heard (inr (not_here, inl taken)) (inr (not_here', inr rest)) = absurd (rest.0 ((same.others j).0 taken.0))
    assign_same j q heard (inr (not_here, inr rest)) (inr (not_here', inl taken)) = absurd (rest.0 ((same.others j).1 taken.0))
    assign_same j q heard (inr (not_here, inr (not_there, inl full))) (inr (not_here', inr (not_there', inl full'))) = same_told (codes "refused dept full") rows other a b full.1 full'.1
    assign_same j q heard (inr (not_here, inr (not_there, inl full))) (inr (not_here', inr (not_there', inr rest))) = absurd (rest.0 (jobs_there 64 full.0))
    assign_same j q heard (inr (not_here, inr (not_there, inr rest))) (inr (not_here', inr (not_there', inl full))) = absurd (rest.0 (jobs_back 64 full.0))
    assign_same j q heard (inr (not_here, inr (not_there, inr room))) (inr (not_here', inr (not_there', inr room'))) = sent_same j q heard room.1 room'.1

    assign_by : (j : ℕ) (o : Option ℕ) → AreSameHeard a.asked b.asked → ByQuota o d rows (λ q x. IsAssignTold d j q rows x) a → ByQuota o d other (λ q x. IsAssignTold d j q other x) b → b.texts ≡ a.texts
    assign_by j None heard told told' = same_told (numbered (codes "refused dept unknown") d) rows other a b told told'
    assign_by j (Some q) heard told told' = assign_same j q heard told told'

    spent_by : (o : Option ℕ) → ByQuota o d rows (λ q x. IsTold (spent_text d (spent rows d) q) rows x) a → ByQuota o d other (λ q x. IsTold (spent_text d (spent other d) q) other x) b → b.texts ≡ a.texts
    spent_by None told told' = same_told (numbered (codes "refused dept unknown") d) rows other a b told told'
    spent_by (Some q) told told' = told'.texts ∙ ap (λ (s : ℕ). spent_text d s q ∷ []) same_spent ∙ sym told.texts

  answers_same : (own : DepartmentLine) → IsLineOf d own → (a b : Answered) → IsAnswered own rows a → IsAnswered own other b → AreSameHeard a.asked b.asked → b.texts ≡ a.texts
  answers_same (Quota e q) is a b told told' heard =
      quota_same a b q (subst (λ (n : ℕ). IsQuotaTold n q rows a) is told) (subst (λ (n : ℕ). IsQuotaTold n q other b) is told')
  answers_same (Assign e j) is a b told told' heard =
      assign_by a b j (quota rows d) heard (subst (λ (n : ℕ). IsAnswered (Assign n j) rows a) is told)
      (subst (λ (o : Option ℕ). ByQuota o d other (λ q x. IsAssignTold d j q other x) b) same_quota (subst (λ (n : ℕ). IsAnswered (Assign n j) other b) is told'))
  answers_same (Spent e) is a b told told' heard =
      spent_by a b (quota rows d) (subst (λ (n : ℕ). IsAnswered (Spent n) rows a) is told)
      (subst (λ (o : Option ℕ). ByQuota o d other (λ q x. IsTold (spent_text d (spent other d) q) other x) b) same_quota (subst (λ (n : ℕ). IsAnswered (Spent n) other b) is told'))
  answers_same (Print j) is a b told told' heard = absurd is

pub isolation : AreIsolated
isolation d own is rows other same a b told told' heard = answers_same d rows other same own is a b told told' heard
