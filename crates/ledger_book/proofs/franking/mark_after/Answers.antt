use Rattle.std.proofs.Common.{reverse, arith}
use Rattle.ledger_book.proofs.Marks.{fits_debited, whole_mark, whole_held, fits_again}
use Rattle.ledger_book.proofs.franking.mark_after.Goals as goal

pub returns-clause-whole : goal.returns-clause-whole
returns-clause-whole c =
    let f = fits_debited c.args.device c.args.piece c.args.postage c.args.class c.args.version c.args.day (reverse c.args.before.now) (omega arith) (omega arith) c.requires in
    let up = f.ascending in
    let down = f.descending in
    let day = fits_again c.get.result c.get.ensures.range.0 c.get.ensures.range.1 in
    whole_held (record {
      version = c.args.version;
      device = c.get-number.result;
      piece = c.args.piece;
      postage = c.args.postage;
      ascending = _;
      descending = _;
      day = _;
      origin = c.origin.result;
      class = c.args.class;
    }) _ _ c.carried_sum.ensures c.carried_sum-2.ensures
    (whole_mark _ f.version (omega arith) (omega arith) (omega arith) (omega arith) (omega arith) day (omega arith) (omega arith))
