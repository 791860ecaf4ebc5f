-- What the host answers: the first refusal that holds, otherwise the number of a new job, or that nothing refuses. Postage is in mills.
use Rattle.std.specs.Prelude.{ℕ, ◌+◌, ◌-◌, Bool, true, false, not, ◌&&◌, List, [], ◌∷◌, Option, Some, None, Result, Ok, Err, ◌==◌, nat_le}
use Rattle.bench_base.specs.declared.{words.JobState.JobState, refusals.HostRefusal.HostRefusal}
use Rattle.bench_base.specs.declared.words.JobState.TheVariants as state
use Rattle.bench_base.specs.declared.refusals.HostRefusal.TheVariants as no
use Rattle.bench_base.specs.Rows.{first_holding}
use Rattle.bench_base.specs.Jobs.{Job}
use Rattle.indicium.specs.declared.Mark.{Mark}
use Rattle.psd_wire.specs.declared.message.DebitMsg.{DebitMsg}
use Rattle.host_jobs.specs.declared.orders.Shelf.{Shelf}

-- == order ==

-- the job is there, and is not closed
abbrev pub is_open : Option JobState → Bool
is_open None = false
is_open (Some state.Closed) = false
is_open (Some s) = true

-- why an order of a piece is refused: the piece was used, no number is left, no room is left
abbrev pub order_rows : ℕ → Shelf → List (Bool × Result ℕ HostRefusal)
order_rows piece h =
    (nat_le piece h.top, Err (no.Used h.top))
    ∷ (nat_le 4294967295 h.last, Err no.NumberFull)
    ∷ (nat_le 1024 h.last && is_open h.oldest, Err (no.JobsFull (h.last - 1023)))
    ∷ []

-- the number of the new job
abbrev pub order_answer : ℕ → Shelf → Option ℕ → Result ℕ HostRefusal
order_answer piece h (Some j) = Err (no.OpenJob j)
order_answer piece h None = first_holding (order_rows piece h) (Ok (h.last + 1))

-- == a job in its cell ==

-- the debit that a job asks for
abbrev pub debit_of : Job → DebitMsg
debit_of b = record { device = b.device; piece = b.piece; postage = b.postage; class = b.class }

-- why a job in this state isn't sent, printed or closed
abbrev pub send_answer : Option JobState → Option HostRefusal
send_answer None = Some no.NoJob
send_answer (Some state.Ordered) = None
send_answer (Some s) = Some (no.State s)

-- why a print is refused: only a held job is printed
abbrev pub print_answer : Option JobState → Option HostRefusal
print_answer None = Some no.NoJob
print_answer (Some state.Held) = None
print_answer (Some s) = Some (no.State s)

-- why a close is refused: only a job that is not closed is closed
abbrev pub close_answer : Option JobState → Option HostRefusal
close_answer None = Some no.NoJob
close_answer (Some state.Closed) = Some (no.State state.Closed)
close_answer (Some s) = None

-- == a Release ==

-- why a mark is not held: it is of another piece, postage or class than the job
abbrev pub hold_rows : Mark → ℕ → ℕ → ℕ → List (Bool × Option HostRefusal)
hold_rows k piece postage class =
    (not (k.piece == piece), Some (no.OtherPiece piece))
    ∷ (not (k.postage == postage), Some (no.OtherPostage postage))
    ∷ (not (k.class == class), Some (no.OtherClass class))
    ∷ []

-- why a job of this piece, postage and class doesn't take the mark
abbrev pub hold_answer : Mark → ℕ → ℕ → ℕ → Option HostRefusal
hold_answer k piece postage class = first_holding (hold_rows k piece postage class) None
