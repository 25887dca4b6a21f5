-- Answers added to a list that is filled, some after others.
use Rattle.std.proofs.Common.{◌≡◌, ℕ, ◌+◌, ◌*◌, ◌≤◌, List, [], ◌++◌, length, map, get_or, sym, refl, ap, ◌∙◌, add-zero, arith, length-append}
use lib.ListN.{length-map}
use Rattle.std.proofs.lemmas.List.{map-append}
use Rattle.layout.specs.declared.element.Element.{Element}
use Rattle.layout.specs.declared.route.Route.{Route}
use Rattle.flank.specs.declared.answers.Branch.{Branch}
use Rattle.flank.specs.declared.answers.Mark.{Mark}
use Rattle.flank.specs.declared.answers.Request.{Request}
use Rattle.flank.specs.declared.filling.Filling.{Filling}
use Rattle.flank.specs.Search.{unmarked}
use Rattle.flank.specs.Protection.{requests_at, requests_in, branch_at, branches_in, marks_of, branches_below, put_at}
use Rattle.flank.specs.Fillings.{Adds, AddsMade}
use Rattle.flank.proofs.Lists.{put_append, requests_more, requests_few, branches_more, below_none, below_more}

module _ {A : Type 0} where
  pub adds_none : (f : Filling A) → Adds f [] f
  adds_none f = record { same_list = refl; list = refl; count = sym (add-zero f.count) }

  pub adds_more : (f g h : Filling A) (xs ys : List A) → Adds f xs g → Adds g ys h → Adds f (xs ++ ys) h
  adds_more f g h xs ys a b = record {
    same_list = b.same_list ∙ a.same_list;
    list = b.list ∙ (ap (λ n. put_at ys n g.list.now) a.count ∙ (ap (put_at ys (f.count + length xs)) a.list ∙ sym (put_append xs ys f.list.now f.count)));
    count = omega (arith, a.count, b.count, length-append xs ys);
  }

module _ {A : Type 0} (answer_to : Request → A) where
  pub made_none : (f : Filling A) → AddsMade answer_to f [] f
  made_none f = adds_none f

  pub made_length : (f g : Filling A) (ps : List Request) → AddsMade answer_to f ps g → g.count ≡ f.count + length ps
  made_length f g ps a = a.count ∙ ap (λ n. f.count + n) (length-map ps answer_to)

  pub made_more : (f g h : Filling A) (ps qs : List Request) → AddsMade answer_to f ps g → AddsMade answer_to g qs h → AddsMade answer_to f (ps ++ qs) h
  made_more f g h ps qs a b = rw (map-append answer_to ps qs) (adds_more f g h (map answer_to ps) (map answer_to qs) a b)

-- one place more of a table
pub branches_added : (u : ℕ) (t : List Mark) (f g h : Filling Branch) (k : ℕ)
    → Adds f (branches_in u t k) g → Adds g (branch_at u k (get_or t k unmarked)) h → Adds f (branches_in u t (k + 1)) h
branches_added u t f g h k a b = rw (branches_more u t k) (adds_more f g h (branches_in u t k) (branch_at u k (get_or t k unmarked)) a b)

module _ {A : Type 0} (answer_to : Request → A) (t : List Mark) (f g : Filling A) (k : ℕ) where
  pub requests_made_more : (h : Filling A) → AddsMade answer_to f (requests_in t k) g → AddsMade answer_to g (requests_at k (get_or t k unmarked)) h
      → AddsMade answer_to f (requests_in t (k + 1)) h
  requests_made_more h a b = rw (requests_more t k) (made_more answer_to f g h (requests_in t k) (requests_at k (get_or t k unmarked)) a b)

  pub requests_count : AddsMade answer_to f (requests_in t k) g → g.count ≤ f.count + 2 * k
  requests_count a = omega (arith, made_length answer_to f g (requests_in t k) a, requests_few t k)

-- the branches of no flank, and of one more
pub none_added : (es : List Element) (r : Route) (f : Filling Branch) → Adds f (branches_below es r 0) f
none_added es r f = rw (below_none es r) (adds_none f)

pub below_added : (es : List Element) (r : Route) (t : List Mark) (f g h : Filling Branch) (k : ℕ)
    → Adds f (branches_below es r k) g → Adds g (branches_in k t 96) h → t ≡ marks_of es r k → Adds f (branches_below es r (k + 1)) h
below_added es r t f g h k a b e = rw (below_more es r k) (adds_more f g h (branches_below es r k) (branches_in k (marks_of es r k) 96) a (rw e at b))
