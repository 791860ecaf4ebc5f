-- What the checks of a row that was read have found.
use Rattle.std.proofs.Common.{◌≡◌, ℕ, List, Some, None, Ok, sym, ap, ◌∙◌, subst}
use Rattle.std.proofs.lemmas.Option.{same_Some, none-some}
use Rattle.psd_wire.specs.declared.{message.Request.Request, message.ReplyMsg.ReplyMsg, message.Message.Message}
use Rattle.psd_wire.specs.declared.message.Message.TheVariants as m
use Rattle.psd_wire.specs.Grammar.{IsWhole, spell, read}
use Rattle.psd_wire.proofs.Readings.{read_spell}
use Rattle.centre_ledger.specs.declared.rows.DeviceRow.{DeviceRow}
use Rattle.centre_ledger.specs.Soundness.{IsRuling}
use Rattle.centre_ledger.specs.Parts.{IsSpelled, IsAnswer, IsCovered, request_of, reply_of}

-- == the messages of a row, read ==

-- the Request that was read is the one that was spelled
pub found_request : (key note : List ℕ) (q : Request) → IsSpelled key note → request_of (read note) ≡ Some q → IsWhole (m.Request q) × (spell (m.Request q) key ≡ note)
found_request key note q (x, c, w, s) e = go x w s (sym (ap (λ b. request_of (read b)) (sym s) ∙ ap request_of (read_spell x key w)) ∙ e)
  where
    go : (y : Message) → IsWhole y → spell y key ≡ note → request_of (Ok y) ≡ Some q → IsWhole (m.Request q) × (spell (m.Request q) key ≡ note)
    go (m.Request r) u t f = subst (λ z. IsWhole (m.Request z) × (spell (m.Request z) key ≡ note)) (same_Some _ _ f) (u, t)
    go (m.Reply r) u t f = absurd (none-some _ f)
    go (m.Done r) u t f = absurd (none-some _ f)
    go (m.Debit r) u t f = absurd (none-some _ f)
    go (m.Release r) u t f = absurd (none-some _ f)

pub found_reply : (key note : List ℕ) (p : ReplyMsg) → IsSpelled key note → reply_of (read note) ≡ Some p → IsWhole (m.Reply p) × (spell (m.Reply p) key ≡ note)
found_reply key note p (x, c, w, s) e = go x w s (sym (ap (λ b. reply_of (read b)) (sym s) ∙ ap reply_of (read_spell x key w)) ∙ e)
  where
    go : (y : Message) → IsWhole y → spell y key ≡ note → reply_of (Ok y) ≡ Some p → IsWhole (m.Reply p) × (spell (m.Reply p) key ≡ note)
    go (m.Reply r) u t f = subst (λ z. IsWhole (m.Reply z) × (spell (m.Reply z) key ≡ note)) (same_Some _ _ f) (u, t)
    go (m.Request r) u t f = absurd (none-some _ f)
    go (m.Done r) u t f = absurd (none-some _ f)
    go (m.Debit r) u t f = absurd (none-some _ f)
    go (m.Release r) u t f = absurd (none-some _ f)

-- what a ruling keeps is read
pub reads_request : (r : DeviceRow) (q : Request) (p : ReplyMsg) → IsRuling r q p → request_of (read r.request) ≡ Some q
reads_request r q p h = ap (λ b. request_of (read b)) h.request ∙ ap request_of (read_spell (m.Request q) r.key h.request_whole)

pub reads_reply : (r : DeviceRow) (q : Request) (p : ReplyMsg) → IsRuling r q p → reply_of (read r.reply) ≡ Some p
reads_reply r q p h = ap (λ b. reply_of (read b)) h.reply ∙ ap reply_of (read_spell (m.Reply p) r.key h.reply_whole)

-- == a ruling, and what is asked of the two messages ==

pub ruling_made : (r : DeviceRow) (q : Request) (p : ReplyMsg) → IsSpelled r.key r.request → IsSpelled r.key r.reply
    → request_of (read r.request) ≡ Some q → reply_of (read r.reply) ≡ Some p → IsAnswer r q p → IsCovered r p → IsRuling r q p
ruling_made r q p a b e f answer covered =
    let request = found_request r.key r.request q a e in
    let reply = found_reply r.key r.reply p b f in
    record {
      request = sym request.1;
      request_whole = request.0;
      request_device = answer.request_device;
      request_number = answer.request_number;
      reply = sym reply.1;
      reply_whole = reply.0;
      reply_device = answer.reply_device;
      reply_number = answer.reply_number;
      kind = answer.kind;
      version = answer.version;
      buys = covered.buys;
      returns = covered.returns;
    }

pub ruling_answers : (r : DeviceRow) (q : Request) (p : ReplyMsg) → IsRuling r q p → IsAnswer r q p × IsCovered r p
ruling_answers r q p h = (
  record {
    request_device = h.request_device;
    request_number = h.request_number;
    reply_device = h.reply_device;
    reply_number = h.reply_number;
    kind = h.kind;
    version = h.version;
  },
  record { buys = h.buys; returns = h.returns },
)

-- the ruling is of the two messages that were read
pub ruling_parts : (r : DeviceRow) (q : Request) (p : ReplyMsg) → request_of (read r.request) ≡ Some q → reply_of (read r.reply) ≡ Some p
    → (x : Request) → (y : ReplyMsg) → IsRuling r x y → IsAnswer r q p × IsCovered r p
ruling_parts r q p e f x y h =
    let first : x ≡ q = same_Some _ _ (sym (reads_request r x y h) ∙ e) in
    let second : y ≡ p = same_Some _ _ (sym (reads_reply r x y h) ∙ f) in
    let parts = ruling_answers r x y h in
    subst (λ z. IsAnswer r q z × IsCovered r z) second (subst (λ z. IsAnswer r z y × IsCovered r y) first parts)

pub no_request : (r : DeviceRow) → request_of (read r.request) ≡ None → (x : Request) → (y : ReplyMsg) → IsRuling r x y → ⊥
no_request r e x y h = absurd (none-some _ (sym e ∙ reads_request r x y h))

pub no_reply : (r : DeviceRow) → reply_of (read r.reply) ≡ None → (x : Request) → (y : ReplyMsg) → IsRuling r x y → ⊥
no_reply r e x y h = absurd (none-some _ (sym e ∙ reads_reply r x y h))
