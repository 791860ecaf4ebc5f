-- What a storage in memory shows after a mount, the bytes that it was made of show.
use Rattle.std.proofs.Common.{List, ℕ, subst}
use Rattle.nv_model.specs.Laws.{content_image, since_nested}
use Rattle.nv_model.specs.Moments.{Image, Only}
use Rattle.nv_model.specs.contracts.memory.MemNvNv.TheImpl.{ghosts}
use Rattle.nv_model.specs.declared.memory.MemNv.{MemNv}
use Rattle.nv_store.specs.Mounts.{Mounts}
use Rattle.row_store.proofs.Blank.{still_only}

pub made_of : (Shows : List ℕ → Type 0) (bytes : List ℕ) (before now : MemNv) → Mounts (ghosts.times before) (ghosts.times now) → Only (ghosts.times before) bytes
    → ((c : List ℕ) → Image (ghosts.times now) c → Shows c) → Shows bytes
made_of Shows bytes before now mounts only shows =
    let m = now.medium in
    let image = content_image m.bytes.items m.steps.items m.start.items m.marks.items m.content.items m.image in
    let nested = since_nested m.bytes.items m.steps.items m.start.items m.marks.items in
    subst Shows (still_only (ghosts.times before) (ghosts.times now) bytes m.content.items mounts nested only image) (shows m.content.items image)
