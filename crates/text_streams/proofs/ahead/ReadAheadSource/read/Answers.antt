use Rattle.std.proofs.Common.{rules, ◌≡◌, min, sym, ◌∙◌, ap, subst, length, take, drop, ℕ, List, ◌-◌}
use Rattle.text_streams.proofs.Prefixes.{gives}
use Rattle.text_streams.proofs.ahead.ReadAheadSource.read.Goals as goal

pub returns-clause-bytes : goal.returns-clause-bytes
returns-clause-bytes g c =
    let s = c.refill.new.self in
    let n = c.copy_prefix-count.result in
    let room = length c.copy_prefix-count.new.buf in
    let prefix = λ (bytes : List ℕ). take (s.end - s.at) (drop s.at bytes) in
    let counted : n ≡ min (length (prefix c.as_slice.result.now)) room =
    c.copy_prefix-count.ensures.count ∙ ap (min (length (prefix c.as_slice.result.now))) (sym c.copy_prefix-count.ensures.long) in
    gives _ (g.S.Source.left s.inner) s.at s.end n s.buffer.items c.copy_prefix-count.new.buf s.ahead (search rules) c.refill.ensures.keeps (search rules)
    (subst (λ (bytes : List ℕ). n ≡ min (length (prefix bytes)) room) c.as_slice.ensures.value counted)
    (subst (λ (bytes : List ℕ). take n c.copy_prefix-count.new.buf ≡ take n (prefix bytes)) c.as_slice.ensures.value c.copy_prefix-count.ensures.copied)
