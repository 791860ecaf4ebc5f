use Rattle.std.proofs.Common.{◌∙◌, ap, subst}
use Rattle.centre_ledger.specs.Books.{Books, AreSound, put_row}
use Rattle.centre_ledger.specs.Seen.{cell_of}
use Rattle.centre_protocol.specs.Cells.{books_kept, row_in, row_here, row_other}
use Rattle.centre_protocol.proofs.rows.CentreRowsRows.take.Goals as goal

pub put-requires : goal.put-requires
put-requires c =
    let m = c.args.self.now in
    let next = c.requires.committed.2.next in
    subst (λ (b : Books). AreSound (put_row b c.args.row.now)) (books_kept m.accounts c.requires.committed.0 m.places next.keeps.filled) next.fits

pub returns : goal.returns
returns c held payload done =
    let m = c.args.self.now in
    let x = c.args.row.now in
    record {
      here = ap (λ (b : Books). row_in b (cell_of x)) c.put.ensures ∙ row_here m.accounts x m.places done.next.has;
      others = λ k differs. ap (λ (b : Books). row_in b k) c.put.ensures ∙ row_other m.accounts x k done.next.has differs;
      follows = tt;
    }
