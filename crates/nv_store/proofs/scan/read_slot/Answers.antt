use Rattle.std.proofs.Common.{◌≡◌, inl, inr, ◌+◌, Some, sym, ◌∙◌, ap, subst, arith}
use Rattle.nv_store.specs.Scans.{Scanned, open_count}
use Rattle.nv_store.specs.declared.scan.Scan.{Scan}
use Rattle.nv_store.proofs.ScanMore.{more_shut, more_open, cases_slot}
use Rattle.nv_store.proofs.scan.read_slot.Goals as goal

pub returns-clause-more : goal.returns-clause-more
returns-clause-more g c tells slots here scanned =
    let scan = c.args.scan.now in
    let seen : c.in_ok-found.found ≡ open_count (slots c.args.place) = c.in_ok-found.ensures.count tells ∙ ap open_count (sym here) in
    let note = c.note.ensures in
    elim (cases_slot (slots c.args.place)) [
      | inl none ↦
          subst (λ (s : Scan). Scanned (c.args.place + 1) slots s.head.count s.head.place s.head.gates s.counts) (sym (note.closed (seen ∙ ap open_count none)))
          (more_shut c.args.place slots scan.head.count scan.head.place scan.head.gates scan.counts scanned none)
      | inr (a, some) ↦
          let is : c.in_ok-found.found ≡ Some a.0 = seen ∙ ap open_count some in
          more_open c.args.place slots scan.head.count scan.head.place scan.head.gates scan.counts scanned a some (omega (arith, c.requires.inside)) (omega (arith, c.requires.inside))
          c.note.new.scan.head.count c.note.new.scan.head.place c.note.new.scan.head.gates c.note.new.scan.counts
          (note.gates a.0 is) (note.counts a.0 is) (note.better a.0 is) (note.kept a.0 is)
    ]
