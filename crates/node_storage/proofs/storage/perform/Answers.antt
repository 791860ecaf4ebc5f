use Rattle.std.proofs.Common.{◌≡◌, false, Err, sym, ◌∙◌, ap, subst}
use Rattle.std.proofs.lemmas.Bool.{false_from_ne_true}
use Rattle.bench_base.specs.declared.refusals.StoreFail.{StoreFail}
use Rattle.nv_store.specs.Turns.{Spent}
use Rattle.node_storage.specs.Does.{Writes}
use Rattle.node_storage.specs.Ends.{begins, end_of_commit, leaves_running}
use Rattle.node_storage.proofs.Called.{off_call, refuses, tells_only, worn, done, cut, faulted}
use Rattle.node_storage.proofs.Wrote.{wrote_commit, wrote_off}
use Rattle.node_storage.proofs.storage.perform.Goals as goal

pub returns-then-not-is_on-clause-did : goal.returns-then-not-is_on-clause-did
returns-then-not-is_on-clause-did g c by is = off_call g.K.Node g.K.Storage.Nv by c.args.node.now (sym c.if-not-is_on.ensures)

pub returns-in-Refuse-clause-did : goal.returns-in-Refuse-clause-did
returns-in-Refuse-clause-did g c by is =
    refuses g.K.Node g.K.Storage.Nv by c.in-Refuse.refusal c.args.node.now (is ∙ c.in-Refuse.is) (sym c.if-not-is_on.ensures)

pub returns-in-Tell-clause-did : goal.returns-in-Tell-clause-did
returns-in-Tell-clause-did g c by is =
    tells_only g.K.Node g.K.Storage.Nv by c.in-Tell.answer c.args.node.now (is ∙ c.in-Tell.is) (sym c.if-not-is_on.ensures)

pub returns-in-Ok-clause-did : goal.returns-in-Ok-clause-did
returns-in-Ok-clause-did g c by is =
    let e = c.in-Ok.ensures in
    let b = c.in-Commits in
    done g.K.Node g.K.Storage.Nv by b.commit b.change b.answer c.args.node.now c.commit.new.self (is ∙ b.is) (sym c.if-not-is_on.ensures)
    g.met.K.Storage.Nv.nested g.met.K.Node.keeps g.met.K.Node.counts (false_from_ne_true _ (λ w. let x = e.answers.worn.1 w in cc)) e.name e.kept e.stores.size e.stores.time e.stores.any_moment
    e.leaves e.answers.done (λ tells. g.met.K.Node.knows c.commit.new.self tells e.leaves) e.stores.spent

pub returns-in-Err-Worn-clause-did : goal.returns-in-Err-Worn-clause-did
returns-in-Err-Worn-clause-did g c by is =
    let e = c.in-Err-Worn.ensures in
    let b = c.in-Commits in
    let full = ap (λ (f : StoreFail). Err f) c.in-Err-Worn.field-0-is in
    worn g.K.Node g.K.Storage.Nv by b.commit b.change b.answer c.args.node.now c.commit.new.self (is ∙ b.is) (sym c.if-not-is_on.ensures) (e.rests full) (e.answers.worn.0 full)

pub returns-in-Err-Power-clause-did : goal.returns-in-Err-Power-clause-did
returns-in-Err-Power-clause-did g c by is =
    let n = g.K.Node in
    let nv = g.K.Storage.Nv in
    let k = c.args.node.now in
    let k' = c.commit.new.self in
    let e = c.in-Err-Power.ensures in
    let b = c.in-Commits in
    cut n nv by b.commit b.change b.answer k k' (is ∙ b.is) (sym c.if-not-is_on.ensures)
    g.met.K.Storage.Nv.nested g.met.K.Node.keeps g.met.K.Node.counts (false_from_ne_true _ (λ w. let x = e.answers.worn.1 w in let y = c.in-Err-Power.field-0-is in cc)) e.name e.kept e.stores.size e.stores.time e.stores.any_moment
    (subst (λ (f : StoreFail). n.is_on k' ≡ leaves_running (Err f)) c.in-Err-Power.field-0-is e.leaves)
    (subst (λ (f : StoreFail). Spent 6 (nv.meters (n.storage k)) (nv.meters (n.storage k')) (end_of_commit (Err f))) c.in-Err-Power.field-0-is e.stores.spent)

pub returns-in-Err-Fault-clause-did : goal.returns-in-Err-Fault-clause-did
returns-in-Err-Fault-clause-did g c by is =
    let n = g.K.Node in
    let nv = g.K.Storage.Nv in
    let k = c.args.node.now in
    let k' = c.commit.new.self in
    let e = c.in-Err-Fault.ensures in
    let b = c.in-Commits in
    faulted n nv by b.commit b.change b.answer k k' (is ∙ b.is) (sym c.if-not-is_on.ensures)
    g.met.K.Storage.Nv.nested g.met.K.Node.keeps g.met.K.Node.counts (false_from_ne_true _ (λ w. let x = e.answers.worn.1 w in let y = c.in-Err-Fault.field-0-is in cc)) e.name e.kept e.stores.size e.stores.time e.stores.any_moment
    (subst (λ (f : StoreFail). n.is_on k' ≡ leaves_running (Err f)) c.in-Err-Fault.field-0-is e.leaves)
    (subst (λ (f : StoreFail). Spent 6 (nv.meters (n.storage k)) (nv.meters (n.storage k')) (end_of_commit (Err f))) c.in-Err-Fault.field-0-is e.stores.spent)

pub returns-then-not-is_on-clause-wrote : goal.returns-then-not-is_on-clause-wrote
returns-then-not-is_on-clause-wrote g c = wrote_off g.K.Node g.K.Storage.Nv c.args.act.now c.args.node.now

pub returns-in-Ok-clause-wrote : goal.returns-in-Ok-clause-wrote
returns-in-Ok-clause-wrote g c =
    let b = c.in-Commits in
    wrote_commit g.K.Node g.K.Storage.Nv c.args.act.now b.commit b.change b.answer b.is c.args.node.now c.commit.new.self _ c.in-Ok.ensures.writes

pub returns-in-Err-Worn-clause-wrote : goal.returns-in-Err-Worn-clause-wrote
returns-in-Err-Worn-clause-wrote g c =
    let b = c.in-Commits in
    wrote_commit g.K.Node g.K.Storage.Nv c.args.act.now b.commit b.change b.answer b.is c.args.node.now c.commit.new.self _ (record { fills = λ tells began. cc; calls = λ made. cc })

pub returns-in-Err-Power-clause-wrote : goal.returns-in-Err-Power-clause-wrote
returns-in-Err-Power-clause-wrote g c =
    let n = g.K.Node in
    let b = c.in-Commits in
    let k = c.args.node.now in
    let k' = c.commit.new.self in
    wrote_commit n g.K.Storage.Nv c.args.act.now b.commit b.change b.answer b.is k k' _
    (subst (λ (f : StoreFail). Writes g.K.Storage.Nv (n.fill (n.seen k) b.change) (n.storage k) (n.storage k') (begins (Err f)) false) c.in-Err-Power.field-0-is c.in-Err-Power.ensures.writes)

pub returns-in-Err-Fault-clause-wrote : goal.returns-in-Err-Fault-clause-wrote
returns-in-Err-Fault-clause-wrote g c =
    let n = g.K.Node in
    let b = c.in-Commits in
    let k = c.args.node.now in
    let k' = c.commit.new.self in
    wrote_commit n g.K.Storage.Nv c.args.act.now b.commit b.change b.answer b.is k k' _
    (subst (λ (f : StoreFail). Writes g.K.Storage.Nv (n.fill (n.seen k) b.change) (n.storage k) (n.storage k') (begins (Err f)) false) c.in-Err-Fault.field-0-is c.in-Err-Fault.ensures.writes)
