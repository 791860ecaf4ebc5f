-- No move of an honest history is answered `ahead`, `changed` or `stray`; and what was sent is read and addressed.
use Rattle.std.proofs.Common.{◌≡◌, ℕ, ℤ, List, ◌∷◌, Option, sym, subst, ◌⊎◌, ⊎_elim}
use Rattle.bench_base.specs.declared.{events.Event.Event, events.Reply.Reply}
use Rattle.bench_base.specs.declared.events.Reply.TheVariants as r
use Rattle.bench_base.specs.Rules.{Rules}
use Rattle.bench_base.specs.Plans.{Plan}
use Rattle.bench_base.specs.Ledger.{Ledger, day_in, counted}
use Rattle.psd_wire.specs.declared.message.Message.{Message}
use Rattle.psd_wire.specs.declared.message.Message.TheVariants as m
use Rattle.ledger_moves.specs.Tariffs.{Tariff}
use Rattle.ledger_terms.specs.Editions.{Editions}
use Rattle.node_acts.specs.Plans.{Fails}
use Rattle.ledger_moves.specs.Moves.{plan, Moves, OtherUp, FailsToRead}
use Rattle.ledger_moves.specs.Histories.{Unforged, History}
use Rattle.ledger_terms.specs.Sane.{IsSane}
use Rattle.ledger_terms.specs.Further.{IsAddressed, SentAreRead, RepliesAreRuled}
use Rattle.ledger_laws.proofs.Money.{ruling_asked}
use Rattle.ledger_laws.proofs.Asked.{note_reads, applied_asked}
use Rattle.ledger_laws.proofs.Grown.{Inv, GenuineAs, genuine_at}
use Rattle.ledger_laws.proofs.Histories.{histories, plan_ok, allows_same, carried_by}

other_sane : (was x : Reply) (H : Ledger) → OtherUp was x H → IsSane x
other_sane was x H h = subst IsSane (sym h.more) tt

fails_sane : (p : Plan) (x : Reply) → Fails p x → IsSane x
fails_sane p (r.Power n) h = tt
fails_sane p (r.Fault n) h = tt
fails_sane p (r.PrinterFault j) h = tt
fails_sane p _ h = absurd h

unread_sane : (x : Event) (y : Reply) (day : Option ℤ) → FailsToRead x y day → IsSane y
unread_sane x y day h = subst IsSane (sym h.reply_is) tt

pub moves_sane : (τ : Tariff) (ρ : Rules) (ρs : List Rules) (H : Ledger) → Editions (ρ ∷ ρs) → History τ (ρ ∷ ρs) H → (x : Event) (text : List ℕ) (reply : Reply) → Unforged x H → Moves τ ρ H x text reply → IsSane reply
moves_sane τ ρ ρs H E h x text reply u v =
    let carried = carried_by ρs ρ E.0 in
    let i = histories τ (ρ ∷ ρs) E H h ρ (carried, allows_same ρ) in
    let p = plan τ ρ H x text in
    ⊎_elim
    (λ (same : reply ≡ p.reply). subst IsSane (sym same) (plan_ok τ ρ carried H i x text v.0 u).sane)
    (λ (k : OtherUp p.reply reply H ⊎ (Fails p reply ⊎ FailsToRead x reply (day_in H))). ⊎_elim
    (other_sane p.reply reply H)
    (λ (l : Fails p reply ⊎ FailsToRead x reply (day_in H)). ⊎_elim (fails_sane p reply) (unread_sane x reply (day_in H)) l)
    k)
    v.1

addressed : (ρ : Rules) (H : Ledger) → Inv ρ H → (bytes : List ℕ) (x : Message) → GenuineAs bytes x H (counted H) → IsAddressed x
addressed ρ H i bytes (m.Request q) g = (note_reads ρ q.device q.number bytes (counted H) i.good g).range.0
addressed ρ H i bytes (m.Reply p) g = (note_reads ρ p.device p.number g.note (counted H) i.good (ruling_asked ρ p.device p.number (p.verdict, g.note) (counted H) i.good g.ruled_as)).range.0
addressed ρ H i bytes (m.Done q) g = let note = applied_asked ρ q.device q.number g.0 (counted H) i.good g.1 in (note_reads ρ q.device q.number note.0 (counted H) i.good note.1).range.0
addressed ρ H i bytes (m.Debit q) g = g.0
addressed ρ H i bytes (m.Release x) g = tt

pub sent_read : (ρ : Rules) (H : Ledger) → Inv ρ H → SentAreRead H
sent_read ρ H i bytes s = let g = i.sents bytes s in (g.what, g.reads, addressed ρ H i bytes g.what g.vouched)

pub replies_ruled : (ρ : Rules) (H : Ledger) → Inv ρ H → RepliesAreRuled H
replies_ruled ρ H i bytes p s reads = (genuine_at bytes (m.Reply p) H (counted H) (i.sents bytes s) reads).whole
