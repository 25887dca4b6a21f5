-- Sound paths and overlaps in the words of the subject.
use Rattle.std.specs.Prelude.{◌≡◌, ℕ, suc, ◌-◌, ◌<◌, true, false, ◌≢◌, ◌⊎◌, List, ◌∷◌, length, Some, None}
use Rattle.bounded.specs.declared.bounded.Bounded.{Bounded}
use Rattle.bounded.specs.Lists.{listed}
use Rattle.layout.specs.declared.element.Element.{Element}
use Rattle.layout.specs.declared.kind.Kind.TheVariants as kind
use Rattle.layout.specs.declared.kind.Sort.{Sort}
use Rattle.layout.specs.declared.kind.Sort.TheVariants as sort
use Rattle.layout.specs.declared.route.Route.{Route}
use Rattle.layout.specs.declared.route.RouteClass.{RouteClass}
use Rattle.layout.specs.declared.route.RouteClass.TheVariants as class
use Rattle.layout.specs.Ports.{at}
use Rattle.layout.specs.Ways.{place, kind_at, Runs}

-- The sorts of signal at which a route of a class may start.
pub data Starts : RouteClass → Sort → Type 0 where
  train_from_train : Starts class.Train sort.Train
  train_from_entry : Starts class.Train sort.Entry
  shunting_from_shunting : Starts class.Shunting sort.Shunting
  shunting_from_train : Starts class.Shunting sort.Train

-- The numbers of a way are elements of the plan.
abbrev pub Within : List Element → List ℕ → Type 0
Within es way = (k : ℕ) → k < length way → place way k < length es

-- No element occurs twice in a way.
abbrev pub Once : List ℕ → Type 0
Once way = (j k : ℕ) → j < k → k < length way → place way j ≢ place way k

-- The last place of a way.
abbrev pub last : List ℕ → ℕ
last way = length way - 1

-- A sound path: its numbers are elements of the plan, none occurs twice, and it runs. Its first element is a signal, of a sort
-- at which a route of the class may start, left at its front. Its last is a track, or a signal met at its rear.
-- At least one element strictly between them is no signal.
pub record SoundPath (es : List Element) (c : RouteClass) (path : List ℕ) : Type 0 where
  pub within : Within es path
  pub once : Once path
  pub runs : Runs es path
  pub starts_at_signal : kind_at es path 0 ≡ kind.Signal
  pub starts_by_sort : (s : Sort) × ((at es (place path 0)).sort ≡ Some s) × Starts c s
  pub starts_forward : runs.leaves 0 ≡ 1
  pub ends : (kind_at es path (last path) ≡ kind.Track) ⊎ ((kind_at es path (last path) ≡ kind.Signal) × (runs.enters (last path) ≡ 0))
  pub body : (k : ℕ) × (0 < k) × (suc k < length path) × (kind_at es path k ≢ kind.Signal)

-- A sound overlap: the path ends at a signal, and the way from that signal's front over the overlap runs.
-- Its numbers are elements of the plan, and none occurs in the path or twice in the overlap. It does not end at a point.
pub record SoundOverlap (es : List Element) (path overlap : List ℕ) : Type 0 where
  pub some_path : 0 < length path
  pub some_overlap : 0 < length overlap
  pub from_signal : kind_at es path (last path) ≡ kind.Signal
  pub within : Within es overlap
  pub apart : (j k : ℕ) → j < length path → k < length overlap → place path j ≢ place overlap k
  pub once : Once overlap
  pub runs : Runs es (place path (last path) ∷ overlap)
  pub starts_forward : runs.leaves 0 ≡ 1
  pub ends : kind_at es overlap (last overlap) ≢ kind.Point

-- A route has a path, and a sound one.
pub record HasSoundPath (es : List Element) (r : Route) : Type 0 where
  pub path : Bounded ℕ 24
  pub is : r.path ≡ Some path
  pub sound : SoundPath es r.class (listed path)

-- What a route may have for an overlap: none; on a train route a zero overlap and no overlap field;
-- or on a train route without zero overlap a sound overlap beyond its path.
pub data AllowedOverlap (es : List Element) (r : Route) : Type 0 where
  no_overlap : r.overlap ≡ None → r.zero_overlap ≡ false → AllowedOverlap es r
  zero_overlap : r.class ≡ class.Train → r.overlap ≡ None → r.zero_overlap ≡ true → AllowedOverlap es r
  some_overlap : (path : Bounded ℕ 24) (overlap : Bounded ℕ 8) → r.class ≡ class.Train → r.zero_overlap ≡ false
      → r.path ≡ Some path → r.overlap ≡ Some overlap → SoundOverlap es (listed path) (listed overlap) → AllowedOverlap es r
