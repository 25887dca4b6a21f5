-- Sound plans in the words of the subject, and the theorem that the checks pass exactly these.
use Rattle.std.specs.Prelude.{◌≡◌, ℕ, ◌<◌, ◌≤◌, true, ◌↔◌, length, slice_index_or}
use Rattle.bounded.specs.Lists.{listed}
use Rattle.layout.specs.declared.drawing.Drawing.{Drawing}
use Rattle.layout.specs.declared.position.Position.TheVariants as position
use Rattle.layout.specs.Drawings.{no_route}
use Rattle.layout.specs.Sound.{SoundElements}
use Rattle.paths.specs.Sound.{HasSoundPath, AllowedOverlap}
use Rattle.walks.specs.Walks.{Requested}
use Rattle.plan.specs.Plans.{is_sound}

-- A sound plan: 1 to 96 elements and at most 64 routes; the elements are sound; each route has a sound path and an allowed overlap,
-- and requests no element both ways.
pub record SoundPlan (d : Drawing) : Type 0 where
  pub some_element : 0 < length (listed d.elements)
  pub few_elements : length (listed d.elements) ≤ 96
  pub few_routes : length (listed d.routes) ≤ 64
  pub elements : SoundElements (listed d.elements)
  pub paths : (i : ℕ) → i < length (listed d.routes) → HasSoundPath (listed d.elements) (slice_index_or (listed d.routes) i no_route)
  pub overlaps : (i : ℕ) → i < length (listed d.routes) → AllowedOverlap (listed d.elements) (slice_index_or (listed d.routes) i no_route)
  pub one_way : (i : ℕ) → i < length (listed d.routes) → (e : ℕ)
      → Requested (listed d.elements) (slice_index_or (listed d.routes) i no_route) e position.Plus
      → Requested (listed d.elements) (slice_index_or (listed d.routes) i no_route) e position.Minus → ⊥

-- A drawing has an element and passes the checks exactly if it is a sound plan.
abbrev pub ChecksExact : Type 0
ChecksExact = (d : Drawing) → (is_sound d ≡ true) ↔ SoundPlan d
