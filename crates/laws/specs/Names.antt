-- The names that occur in a term: its modules and its events, wherever they stand, in treatments too.
--     uses f g t            some module of t passes the test f, or some event of t the test g; `uses_i`, `uses_l` of an interruption, of what is left
--     uses_module m t        the module m occurs in t; `uses_module_l` of what is left
--     uses_event e t         the event e occurs in t; `uses_event_i`, `uses_event_l` of an interruption, of what is left
-- Assumes nothing.
use Rattle.std.specs.Prelude.{ℕ, Bool, false, ◌||◌, eqb}
use Rattle.paper.specs.Term.{Term, Intr, Left, Mod, One, Seq, Par, Star, Act, Event, Treat, Either, Both, gone, still}

unfoldable mutual
  pub uses : (ℕ → Bool) → (ℕ → Bool) → Term → Bool
  uses f g (Mod m) = f m
  uses f g One = false
  uses f g (Seq x y) = uses f g x || uses f g y
  uses f g (Par x y) = uses f g x || uses f g y
  uses f g (Star x) = uses f g x
  uses f g (Act x i) = uses_i f g i || uses f g x

  pub uses_i : (ℕ → Bool) → (ℕ → Bool) → Intr → Bool
  uses_i f g (Event e) = g e
  uses_i f g (Treat e t) = g e || uses f g t
  uses_i f g (Either i j) = uses_i f g i || uses_i f g j
  uses_i f g (Both i j) = uses_i f g i || uses_i f g j

unfoldable pub uses_l : (ℕ → Bool) → (ℕ → Bool) → Left → Bool
uses_l f g gone = false
uses_l f g (still t) = uses f g t

abbrev pub nowhere : ℕ → Bool
nowhere n = false

abbrev pub uses_module : ℕ → Term → Bool
uses_module m t = uses (eqb m) nowhere t

abbrev pub uses_module_l : ℕ → Left → Bool
uses_module_l m r = uses_l (eqb m) nowhere r

abbrev pub uses_event : ℕ → Term → Bool
uses_event e t = uses nowhere (eqb e) t

abbrev pub uses_event_i : ℕ → Intr → Bool
uses_event_i e i = uses_i nowhere (eqb e) i

abbrev pub uses_event_l : ℕ → Left → Bool
uses_event_l e r = uses_l nowhere (eqb e) r
