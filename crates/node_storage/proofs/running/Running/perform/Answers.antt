use Rattle.std.proofs.Common.{Err, not, refl, sym, ◌∙◌, ap}
use Rattle.std.proofs.lemmas.Bool.{false_from_ne_true}
use Rattle.bench_base.specs.declared.refusals.StoreFail.{StoreFail}
use Rattle.node_storage.proofs.Runs.{none_torn, refuses, tells_only, worn, done, tore, only_worn, not_worn, same_fail}
use Rattle.node_storage.proofs.running.Running.perform.Goals as goal

pub returns-in-Refuse-clause-performs : goal.returns-in-Refuse-clause-performs
returns-in-Refuse-clause-performs g c =
    refuses g.K.Node g.K.Storage.Nv g.met.K.Node.knows g.met.K.Node.stays_same c.args.act c.args.self.now c.requires.runs (none_torn _ (sym c.if-is_some.ensures)) c.in-Refuse.refusal c.in-Refuse.is

pub returns-in-Tell-clause-performs : goal.returns-in-Tell-clause-performs
returns-in-Tell-clause-performs g c =
    tells_only g.K.Node g.K.Storage.Nv g.met.K.Node.knows g.met.K.Node.stays_same c.args.act c.args.self.now c.requires.runs (none_torn _ (sym c.if-is_some.ensures)) c.in-Tell.answer c.in-Tell.is

pub returns-in-Ok-clause-performs : goal.returns-in-Ok-clause-performs
returns-in-Ok-clause-performs g c =
    let b = c.in-Commits in
    let e = c.in-Ok.ensures in
    let works = none_torn _ (sym c.if-is_some.ensures) in
    done g.K.Node g.K.Storage.Nv g.met.K.Node.knows g.met.K.Node.stays_same c.args.act c.args.self.now c.requires.runs works b.commit b.change b.answer _ (record { on = e.leaves ∙ ap not c.if-is_some.ensures; size = e.stores.size ∙ c.requires.runs.size }) b.is
    (false_from_ne_true _ (λ w. let x = e.answers.worn.1 w in cc)) e.name e.kept e.stays.beside _ e.stores refl works e.answers.done e.writes

pub returns-then-is_on-clause-performs : goal.returns-then-is_on-clause-performs
returns-then-is_on-clause-performs g c =
    let b = c.in-Commits in
    let e = c.in-Err.ensures in
    let d = c.args.self.now in
    let is = only_worn c.in-Err.fail (c.if-is_on.ensures ∙ e.leaves) (λ is. e.answers.not_failed (ap (λ (f : StoreFail). Err f) is)) in
    let full = ap (λ (f : StoreFail). Err f) is in
    worn g.K.Node g.K.Storage.Nv g.met.K.Node.knows g.met.K.Node.stays_same c.args.act d c.requires.runs (none_torn _ (sym c.if-is_some.ensures)) b.commit b.change b.answer b.is
    (e.answers.worn.0 full) c.in-Err.fail is c.commit.new.self (e.rests full)

pub returns-else-is_on-clause-performs : goal.returns-else-is_on-clause-performs
returns-else-is_on-clause-performs g c =
    let b = c.in-Commits in
    let e = c.in-Err.ensures in
    let no = not_worn c.in-Err.fail (c.if-is_on.ensures ∙ e.leaves) in
    tore g.K.Node g.K.Storage.Nv g.met.K.Node.knows g.met.K.Node.stays_same c.args.act c.args.self.now c.requires.runs (none_torn _ (sym c.if-is_some.ensures)) b.commit b.change b.answer _ (record { on = sym c.if-is_on.ensures; size = e.stores.size ∙ c.requires.runs.size }) b.is
    (false_from_ne_true _ (λ w. no (same_fail _ _ (e.answers.worn.1 w)))) e.name e.kept e.stays.beside _ e.stores c.in-Err.fail no
    (λ is. e.answers.not_failed (ap (λ (f : StoreFail). Err f) is)) refl refl e.stays.record_stays e.writes
