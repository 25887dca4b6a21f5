-- The theorems that the short lists of a sheet have exactly the elements and sections that the route is concerned with, ascending.
use Rattle.std.specs.Prelude.{◌≡◌, ℕ, ◌<◌, true, ◌⊎◌, List}
use Rattle.std.specs.List.{AllPairs}
use Rattle.bounded.specs.Lists.{listed}
use Rattle.layout.specs.declared.drawing.Drawing.{Drawing}
use Rattle.layout.specs.declared.element.Element.{Element}
use Rattle.layout.specs.declared.position.Position.{Position}
use Rattle.layout.specs.declared.route.Route.{Route}
use Rattle.layout.specs.Uses.{UsesSection}
use Rattle.walks.specs.Exactly.{In}
use Rattle.walks.specs.Walks.{Requested}
use Rattle.sheets.specs.Lists.{is_wanted, is_used}
use Rattle.plan.specs.Flanks.{route_of}
use Rattle.plan.specs.Sound.{SoundPlan}
use Rattle.sheetlaws.specs.Needed.{Needs}
use Rattle.sheetlaws.specs.Routes.{Exactly, elements_of, HasRoute, sheet_at}
use Rattle.sheetlaws.specs.Requests.{want_of}
use Rattle.sheetlaws.specs.Sections.{use_of}

-- A route wants an element if it needs it, or requests it, in some position.
abbrev pub Wants : List Element → Route → ℕ → Type 0
Wants es r e = ((p : Position) × Needs es r e p) ⊎ ((p : Position) × Requested es r e p)

-- An element stands in the list of the elements of which a route wants anything exactly if the route needs or requests it.
abbrev pub WantedExact : Type 0
WantedExact =
    (d : Drawing) → SoundPlan d → (i : ℕ) → HasRoute d i → (e : ℕ)
    → Exactly (In e (listed (sheet_at d i).wanted)) (Wants (elements_of d) (route_of d i) e)

-- A section stands in the list of the sections that a route uses exactly if the route uses it.
abbrev pub UsedSectionsExact : Type 0
UsedSectionsExact =
    (d : Drawing) → SoundPlan d → (i : ℕ) → HasRoute d i → (s : ℕ)
    → Exactly (In s (listed (sheet_at d i).used)) (UsesSection (elements_of d) (route_of d i) s)

-- The first list has exactly the elements of which the table of the sheet says that something is wanted; their numbers are below 96.
abbrev pub WantedListed : Type 0
WantedListed =
    (d : Drawing) → SoundPlan d → (i : ℕ) → HasRoute d i → (e : ℕ)
    → Exactly (In e (listed (sheet_at d i).wanted)) (is_wanted (want_of d i e) ≡ true) × (is_wanted (want_of d i e) ≡ true → e < 96)

-- The second list has exactly the sections of which the table of the sheet says that they are used; their numbers are below 64.
abbrev pub UsedListed : Type 0
UsedListed =
    (d : Drawing) → SoundPlan d → (i : ℕ) → HasRoute d i → (s : ℕ)
    → Exactly (In s (listed (sheet_at d i).used)) (is_used (use_of d i s) ≡ true) × (is_used (use_of d i s) ≡ true → s < 64)

-- Numbers ascend, so each stands once among them.
abbrev pub Ascend : List ℕ → Type 0
Ascend = AllPairs (λ a b. a < b)

-- Both lists ascend.
abbrev pub ListsAscend : Type 0
ListsAscend =
    (d : Drawing) → SoundPlan d → (i : ℕ) → HasRoute d i → Ascend (listed (sheet_at d i).wanted) × Ascend (listed (sheet_at d i).used)
