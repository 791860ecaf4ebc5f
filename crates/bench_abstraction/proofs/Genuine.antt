-- A Reply that a device is handed, with its code, is the one of its ruling: it was sent, since nothing is forged.
use Rattle.std.proofs.Common.{◌≡◌, ℕ, List, Some, true, Result, Ok, subst, sym, ◌∙◌, ap}
use Rattle.bench_base.specs.declared.{words.Node.TheVariants.Device, refusals.Unread.Unread, events.Event.Event}
use Rattle.bench_base.specs.Ledger.{Ledger, IsSent, counted}
use Rattle.node_acts.specs.declared.asked.Asked.{Asked}
use Rattle.node_acts.specs.Kinds.{OfCall}
use Rattle.psd_wire.specs.declared.{message.ReplyMsg.ReplyMsg, message.Message.Message}
use Rattle.psd_wire.specs.declared.message.Message.TheVariants as m
use Rattle.psd_wire.specs.Grammar.{read}
use Rattle.psd_wire.specs.Codes.{has_code}
use Rattle.ledger_terms.specs.Devices.{key_of}
use Rattle.ledger_terms.specs.Rulings.{ruled_reply}
use Rattle.ledger_terms.specs.Further.{RepliesAreRuled}
use Rattle.ledger_laws.proofs.Histories.{message_sent}
use Rattle.ledger_moves.specs.Histories.{Unforged, IsKnown}
use Rattle.bench_abstraction.specs.declared.{calls.DeviceCall.DeviceCall, calls.DeviceCall.TheVariants.Make, calls.DeviceCall.TheVariants.Debit, calls.DeviceCall.TheVariants.Ask, calls.DeviceCall.TheVariants.Resend, calls.DeviceCall.TheVariants.Ack, calls.DeviceCall.TheVariants.Status, calls.DeviceCall.TheVariants.Take}
use Rattle.bench_abstraction.specs.declared.routing.Routed.TheVariants as route
use Rattle.bench_abstraction.specs.declared.routing.OfDay.TheVariants as of_day
use Rattle.bench_abstraction.specs.Routing.{routed}
use Rattle.bench_abstraction.specs.Tariff.{Quote}
use Rattle.bench_abstraction.specs.Messages.{sent_in}
use Rattle.bench_abstraction.proofs.Events.{each_asked}
use Rattle.bench_abstraction.proofs.Sent.{sent_at}

module _ (H : Ledger) where
  -- the bytes are, where they read as a Reply to device d with its code, the one of its ruling
  abbrev pub IsRuled : ℕ → List ℕ → Type 0
  IsRuled d bytes = (p : ReplyMsg) → read bytes ≡ Ok (m.Reply p) → p.device ≡ d → (key : List ℕ) → key_of d (counted H) ≡ Some key → has_code key bytes ≡ true
      → ruled_reply p.device p.number (counted H) ≡ Some p

  -- so those that a call hands to the device
  abbrev pub IsGenuine : ℕ → DeviceCall → Type 0
  IsGenuine d (Make c) = Unit {0}
  IsGenuine d (Debit c) = Unit {0}
  IsGenuine d (Ask c) = Unit {0}
  IsGenuine d (Resend c) = Unit {0}
  IsGenuine d (Ack c) = Unit {0}
  IsGenuine d Status = Unit {0}
  IsGenuine d (Take c) = IsRuled d c.bytes

  abbrev pub OfAsked : ℕ → Asked DeviceCall → Type 0
  OfAsked d = OfCall (IsGenuine d)

module _ (H : Ledger) (replied : RepliesAreRuled H) where
  was_sent : (d : ℕ) (bytes : List ℕ) → IsSent bytes H → IsRuled H d bytes
  was_sent d bytes sent p reads own key made coded = replied bytes p sent reads

  given : (d : ℕ) (bytes : List ℕ) → IsKnown bytes (read bytes) (Device d) H → IsRuled H d bytes
  given d bytes known p reads own key made coded =
      let sent = subst (λ (x : Result Message Unread). IsKnown bytes x (Device d) H) reads known (ap Device (sym own)) key (ap (λ (e : ℕ). key_of e (counted H)) own ∙ made) coded in
      replied bytes p sent reads

  pub genuine : (quote : Quote) (e : Event) (d : ℕ) (asked : Asked DeviceCall) → routed (sent_in H) quote e ≡ Some (route.OfDay (of_day.Device d asked)) → Unforged e H → OfAsked H d asked
  genuine quote = each_asked (sent_in H) quote (λ e d asked. Unforged e H → OfAsked H d asked) (record {
    on = λ d known. tt;
    off = λ d known. tt;
    cut = λ d calls keep byte known. tt;
    make = λ d key known. tt;
    debit = λ d piece postage class known. tt;
    ask = λ d kind who amount known. tt;
    resend = λ d known. tt;
    ack = λ d known. tt;
    status = λ d known. tt;
    give = λ d bytes known. given d bytes known;
    deliver = λ k d bytes there to known. was_sent d bytes (message_sent k bytes H (sym (sent_at H k) ∙ there));
  })
