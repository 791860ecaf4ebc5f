use Rattle.std.proofs.Common.{◌≡◌, ℕ, ◌+◌, ◌*◌, ◌∙◌, sym, ap, subst, true≢false}
use Rattle.std.specs.Prelude.{IsErrOf, Err}
use Rattle.bench_base.specs.declared.{refusals.BootFail.BootFail, refusals.BootFail.TheVariants.Damaged}
use Rattle.nv_store.specs.Rooms.{HasMixed}
use Rattle.nv_store.specs.TableKnows.{table_only}
use Rattle.row_store.proofs.Booted.{mount_damaged, images_show, foreign_damaged, unsound_damaged, not_damaged}
use Rattle.row_store.proofs.boot.boot_rows.Goals as goal
use Rattle.row_store.proofs.boot.boot_rows.Goals.{else-all_read-via-then-all_read+else-agree, else-all_read-via-else-all_read}

one_fail : (x : BootFail) → IsErrOf {T = Unit {0}} (Err x) Damaged → x ≡ Damaged
one_fail x is = cc

pub returns-in-Err-clause-damaged : goal.returns-in-Err-clause-damaged
returns-in-Err-clause-damaged g c tells is =
    mount_damaged g.W.Rows.decoded g.W.Rows.IsSound g.N.Nv g.row.L _ c.mount_room.new.nv c.in-Err.cause (sym c.fail_of.ensures ∙ one_fail c.fail_of.result is)
    (λ n named same. c.in-Err.ensures.of_size n named (sym c.mount_room.ensures.bytes ∙ same ∙ ap (λ (m : ℕ). m * (2 * (5 + g.row.L))) c.mount_room.ensures.cells))
    (λ k named. subst (λ (n : ℕ). HasMixed g.N.Nv g.row.L n c.mount_room.new.nv k) (sym c.mount_room.ensures.cells) (c.in-Err.ensures.mixed tells k named))

pub returns-then-agree-clause-shows : goal.returns-then-agree-clause-shows
returns-then-agree-clause-shows g c tells =
    let room = c.mount_room.new.room in
    images_show g.W.Rows.decoded g.W.Rows.IsSound g.N.Nv g.row.L _ c.mount_room.new.nv _ (table_only room.same (c.in-Ok.ensures.runs.holds tells)) c.if-all_read.ensures

pub returns-then-agree-clause-intact : goal.returns-then-agree-clause-intact
returns-then-agree-clause-intact g c tells =
    let room = c.mount_room.new.room in
    not_damaged g.W.Rows.decoded g.W.Rows.IsSound g.N.Nv g.row.L _ c.mount_room.new.nv _ (table_only room.same (c.in-Ok.ensures.runs.holds tells)) c.if-all_read.ensures (c.agree.ensures.0 c.if-agree.true)
    (c.in-Ok.ensures.exact ∙ ap (λ (n : ℕ). n * (2 * (5 + g.row.L))) (sym c.mount_room.ensures.cells))

pub returns-clause-damaged : goal.returns-clause-damaged
returns-clause-damaged g c tells is =
    let room = c.mount_room.new.room in
    let only = table_only room.same (c.in-Ok.ensures.runs.holds tells) in
    elim c.else-all_read.branch [
      | else-all_read-via-then-all_read+else-agree w ↦ unsound_damaged g.W.Rows.decoded g.W.Rows.IsSound g.N.Nv g.row.L _ _ _ only w.if-all_read.ensures (λ sound. true≢false (sym (w.agree.ensures.1 sound) ∙ w.if-agree.false))
      | else-all_read-via-else-all_read w ↦ foreign_damaged g.W.Rows.decoded g.W.Rows.IsSound g.N.Nv g.row.L _ _ _ only w.if-all_read.ensures
    ]
