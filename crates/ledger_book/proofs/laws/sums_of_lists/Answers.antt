use Rattle.ledger_book.proofs.WholeSums.{bought_sum, returned_sum, loaded_sum, refunded_sum, ascending_sum, descending_whole, account_whole, balance_whole}
use Rattle.ledger_book.proofs.laws.sums_of_lists.Goals as goal

pub returns : goal.returns
returns c = record { bought = bought_sum; returned = returned_sum; loaded = loaded_sum; refunded = refunded_sum; ascending = ascending_sum; descending = descending_whole; account = account_whole; balance = balance_whole }
