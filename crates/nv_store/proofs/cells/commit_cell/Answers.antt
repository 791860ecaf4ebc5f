use Rattle.std.proofs.Common.{ℕ, ◌+◌, ◌*◌, ◌<◌, ◌≤◌, length, arith, rules, ◌^◌, sym, ◌∙◌, subst}
use Rattle.std.proofs.lemmas.Result.{on_ok_weaker}
use Rattle.std.specs.Prelude.{is_ok}
use Rattle.nv_store.specs.Fills.{Fills, cell_fill, told}
use Rattle.nv_store.proofs.Turn.{commit_uses}
use Rattle.nv_store.specs.Tables.{table_held}
use Rattle.nv_store.specs.TableKnows.{held_at}
use Rattle.nv_store.specs.declared.head.Head.{Head}
use Rattle.nv_store.proofs.TableStep.{table_between, table_known, at_item, both, either_way, err_weaker, count_at, held_here, held_other, held_next, next_held, places_more, cell_room}
use Rattle.nv_store.proofs.cells.commit_cell.Goals as goal

pub commit_at-requires : goal.commit_at-requires
commit_at-requires g c =
    let heads = c.args.heads.now.items in
    let payloads = c.args.payloads.now.items in
    let head = c.index_mut.result.now in
    let payload = c.index_mut-2.result.now in
    let at = at_item heads c.args.cell head c.requires.inside c.index_mut.ensures.value in
    let at' = at_item payloads c.args.cell payload (omega (arith, c.requires.same, c.requires.inside)) c.index_mut-2.ensures.value in
    let w = 2 * (5 + g.row.L) in
    let le = cell_room c.args.cell (length heads) w c.requires.inside in
    let room : c.args.cell * w + w ≤ g.N.Nv.size c.args.nv.now = omega (arith, le, c.requires.room) in
    let fits : c.args.cell * w + w < 2 ^ 32 = omega (arith, le, c.requires.fits) in
    let next : head.count < 4294967295 = subst (λ (n : ℕ). n < 4294967295) (count_at heads payloads c.args.cell head payload at at') c.requires.next in
    (first_of (omega arith, grind arith, search rules), (c.requires.small, ((omega arith, omega arith), (room, (fits, (c.requires.powered, (next, (c.requires.places.each c.args.cell head c.requires.inside at, (c.requires.alone, (λ tells. (c.requires.known tells).each c.args.cell head payload c.requires.inside at at'))))))))))

pub returns-clause-any_moment : goal.returns-clause-any_moment
returns-clause-any_moment g c tells i now =
    let heads = c.args.heads.now.items in
    let payloads = c.args.payloads.now.items in
    let head = c.index_mut.result.now in
    let payload = c.index_mut-2.result.now in
    let at = at_item heads c.args.cell head c.requires.inside c.index_mut.ensures.value in
    let at' = at_item payloads c.args.cell payload (omega (arith, c.requires.same, c.requires.inside)) c.index_mut-2.ensures.value in
    table_between g.row.L 2 c.args.cell heads payloads c.requires.same head payload c.requires.inside at at' (g.N.Nv.content c.args.nv.now) (c.requires.known tells) c.args.payload.now i (c.commit_at.ensures.any_moment tells i now)

pub returns-clause-here : goal.returns-clause-here
returns-clause-here g c =
    let heads = c.args.heads.now.items in
    let payloads = c.args.payloads.now.items in
    let head = c.index_mut.result.now in
    let payload = c.index_mut-2.result.now in
    let at = at_item heads c.args.cell head c.requires.inside c.index_mut.ensures.value in
    let at' = at_item payloads c.args.cell payload (omega (arith, c.requires.same, c.requires.inside)) c.index_mut-2.ensures.value in
    on_ok_weaker c.commit_at.result (λ row.
    held_here heads payloads c.args.cell c.commit_at.new.head c.commit_at.new.kept c.requires.inside (omega (arith, c.requires.same, c.requires.inside))
    ∙ held_next head.count c.commit_at.new.head.count c.args.payload.now c.commit_at.new.kept row.0 row.1
    ∙ next_held head payload c.args.payload.now (table_held heads payloads c.args.cell) (held_at heads payloads c.args.cell head payload at at')) c.commit_at.ensures.row

pub returns-clause-others : goal.returns-clause-others
returns-clause-others g c k differs = held_other c.args.heads.now.items c.args.payloads.now.items c.args.cell c.commit_at.new.head c.commit_at.new.kept k differs

pub returns-clause-known : goal.returns-clause-known
returns-clause-known g c tells =
    let heads = c.args.heads.now.items in
    let payloads = c.args.payloads.now.items in
    let head = c.index_mut.result.now in
    let payload = c.index_mut-2.result.now in
    let at = at_item heads c.args.cell head c.requires.inside c.index_mut.ensures.value in
    let at' = at_item payloads c.args.cell payload (omega (arith, c.requires.same, c.requires.inside)) c.index_mut-2.ensures.value in
    both c.commit_at.result (c.commit_at.ensures.others tells) (c.commit_at.ensures.known tells) (λ others known.
    table_known g.row.L 2 c.args.cell heads payloads c.requires.same head payload c.requires.inside at at' (g.N.Nv.content c.args.nv.now) (c.requires.known tells) c.commit_at.new.head c.commit_at.new.kept (g.N.Nv.content c.commit_at.new.nv) others known)

pub returns-clause-places : goal.returns-clause-places
returns-clause-places g c =
    let heads = c.args.heads.now.items in
    let head = c.index_mut.result.now in
    let at = at_item heads c.args.cell head c.requires.inside c.index_mut.ensures.value in
    let inside : 0 < c.commit_at.new.head.count → c.commit_at.new.head.place < 2 =
    either_way c.commit_at.result (on_ok_weaker c.commit_at.result (λ row some. row.2) c.commit_at.ensures.row)
    (err_weaker c.commit_at.result (λ same. subst (λ (h : Head). 0 < h.count → h.place < 2) (sym same.0) (c.requires.places.each c.args.cell head c.requires.inside at)) c.commit_at.ensures.same) in
    places_more 2 (length heads) (length heads) c.args.cell heads c.commit_at.new.head c.requires.inside (λ k lt differs. lt) c.requires.places inside

pub returns-clause-fills : goal.returns-clause-fills
returns-clause-fills g c tells =
    let heads = c.args.heads.now.items in
    let payloads = c.args.payloads.now.items in
    let head = c.index_mut.result.now in
    let payload = c.index_mut-2.result.now in
    let at = at_item heads c.args.cell head c.requires.inside c.index_mut.ensures.value in
    let at' = at_item payloads c.args.cell payload (omega (arith, c.requires.same, c.requires.inside)) c.index_mut-2.ensures.value in
    subst (λ (n : ℕ). Fills (cell_fill g.row.L 2 c.args.cell (n + 1, c.args.payload.now)) (told g.N.Nv c.args.nv.now) (told g.N.Nv c.commit_at.new.nv) (is_ok c.commit_at.result))
    (sym (count_at heads payloads c.args.cell head payload at at')) (c.commit_at.ensures.fills tells)

pub returns-clause-uses : goal.returns-clause-uses
returns-clause-uses g c = on_ok_weaker c.commit_at.result (λ used. commit_uses _ _ _ used) c.commit_at.ensures.calls
