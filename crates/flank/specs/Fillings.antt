-- Lists of a caller while they are filled.
use Rattle.std.specs.Prelude.{◌≡◌, ◌+◌, List, length, map}
use Rattle.flank.specs.declared.answers.Request.{Request}
use Rattle.flank.specs.declared.filling.Filling.{Filling}
use Rattle.flank.specs.Protection.{put_at}

-- The same list has some answers more, written from the next place on as far as it has room, and counts them all.
pub record Adds {A : Type 0} (before : Filling A) (answers : List A) (after : Filling A) : Type 0 where
  pub same_list : after.list.ghost_name ≡ before.list.ghost_name
  pub list : after.list.now ≡ put_at answers before.count before.list.now
  pub count : after.count ≡ before.count + length answers

-- The same list has the answers to some requests more, one to each in order.
abbrev pub AddsMade : {A : Type 0} → (Request → A) → Filling A → List Request → Filling A → Type 0
AddsMade answer_to before requests after = Adds before (map answer_to requests) after
