-- The theorems that the tests of a route pass exactly the sound paths and the allowed overlaps.
use Rattle.std.specs.Prelude.{◌≡◌, true, ◌↔◌, List}
use Rattle.layout.specs.declared.element.Element.{Element}
use Rattle.layout.specs.declared.route.Route.{Route}
use Rattle.layout.specs.Sound.{SoundElements}
use Rattle.paths.specs.Paths.{has_path}
use Rattle.paths.specs.Overlaps.{is_overlap_allowed}
use Rattle.paths.specs.Sound.{HasSoundPath, AllowedOverlap}

-- On sound elements a route passes the test of its path exactly if it has a sound path.
abbrev pub PathsExact : Type 0
PathsExact = (es : List Element) (r : Route) → SoundElements es → (has_path es r ≡ true) ↔ HasSoundPath es r

-- With a sound path it passes the test of its overlap exactly if that is allowed.
abbrev pub OverlapsExact : Type 0
OverlapsExact = (es : List Element) (r : Route) → SoundElements es → HasSoundPath es r → (is_overlap_allowed es r ≡ true) ↔ AllowedOverlap es r
