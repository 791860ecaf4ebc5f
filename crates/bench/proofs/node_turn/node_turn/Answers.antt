use Rattle.std.proofs.Common.{ℤ, refl, sym, subst}
use Rattle.bench_base.specs.declared.words.Node.{Node}
use Rattle.node_acts.specs.declared.asked.Asked.{Asked}
use Rattle.node_turns.specs.Printing.{Printer, printer_of}
use Rattle.node_acts.specs.Kinds.{OfCall}
use Rattle.bench.specs.Calls.{Comes}
use Rattle.bench.proofs.node_turn.node_turn.Given.{Over}
use Rattle.bench.proofs.node_turn.node_turn.Goals as goal

abbrev ComesTo : (g : Over) → g.row.T.Denot → Node → g.row.K-Name.Denot → ℤ → g.row.K.Denot → g.row.K.Denot → Printer → Printer → Asked g.row.C.Denot → Type 0
ComesTo g result m d today s t p q asked = Comes g.K.Node g.K.Storage.Nv g.K.Arms.fuse m d (g.T.Tell.IsOf result) s t p q (λ call. g.K.Turns.CameTo d today call s t p q result) asked

pub returns-in-On : goal.returns-in-On
returns-in-On g c =
    let came = c.start.ensures.did in
    let p = printer_of g.P.Sink c.args.printer.now in
    record {
      bytes = subst (OfCall g.K.Turns.IsBytes) (sym c.in-On.is) tt;
      did = subst (ComesTo g c.start.result c.args.node.now c.args.number c.args.day c.args.place.now c.start.new.place p p) (sym c.in-On.is) (came.0, came.1, came.2, refl);
    }

pub returns-in-Off : goal.returns-in-Off
returns-in-Off g c =
    let came = c.stop.ensures.did in
    let p = printer_of g.P.Sink c.args.printer.now in
    record {
      bytes = subst (OfCall g.K.Turns.IsBytes) (sym c.in-Off.is) tt;
      did = subst (ComesTo g c.stop.result c.args.node.now c.args.number c.args.day c.args.place.now c.stop.new.place p p) (sym c.in-Off.is) (came.0, came.1, came.2, refl);
    }

pub returns-in-Cut : goal.returns-in-Cut
returns-in-Cut g c =
    let came = c.cut.ensures.did in
    let p = printer_of g.P.Sink c.args.printer.now in
    record {
      bytes = subst (OfCall g.K.Turns.IsBytes) (sym c.in-Cut.is) tt;
      did = subst (ComesTo g c.cut.result c.args.node.now c.args.number c.args.day c.args.place.now c.cut.new.place p p) (sym c.in-Cut.is) (came.0, came.1, refl);
    }

pub called-requires : goal.called-requires
called-requires g c = record { ranged = subst (OfCall g.K.Turns.IsRanged) c.in-Call.is c.requires.ranged }

pub returns-in-Call : goal.returns-in-Call
returns-in-Call g c =
    let p = printer_of g.P.Sink c.args.printer.now in
    let q = printer_of g.P.Sink c.called.new.printer in
    record {
      bytes = subst (OfCall g.K.Turns.IsBytes) (sym c.in-Call.is) c.called.ensures.bytes;
      did = subst (ComesTo g c.called.result c.args.node.now c.args.number c.args.day c.args.place.now c.called.new.self p q) (sym c.in-Call.is) c.called.ensures.did;
    }
