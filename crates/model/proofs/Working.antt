-- Steps of the worked examples.
use Rattle.std.proofs.Common.{◌≡◌, ℕ, Bool, true, false, cond, List, ◌⊎◌, inl, inr, refl}
use Rattle.shelf.specs.Meaning.{Meaning, Restarts}
use Rattle.layout.specs.Geometry.{Geometry}
use Rattle.model.specs.Crew.{Crew, enough, enough_by}
use Rattle.model.specs.May.{May, nothing}
use Rattle.model.specs.declared.phase.Phase.{Phase}
use Rattle.model.specs.declared.phase.Phase.TheVariants.{Before, Moving, After, Shut}
use Rattle.model.specs.Steps.{Looked, Passed, SeenBy, Step, Torn}
use Rattle.model.specs.WorkedCalls.{cut_in, passed_by}

pub same : (a : Meaning) → May nothing a a
same a = record { members = refl; sectors = refl; off_stays = λ e. e; absent_stays = λ k e. e; current = λ k s. inl refl; durable = λ k s. inl refl }

pub looked : (w : Crew) (a : Meaning) → Looked w a a
looked w a = record { may = same a; goes = record { on = λ e. e; enough = λ e. e } }

-- who is there stays
still_enough : (p : Phase) (s t : Geometry) (f : Step) (a : Meaning) → enough_by p s t a ≡ true → enough_by p s t (passed_by f a) ≡ true
still_enough Before s t f a e = e
still_enough Moving s t f a e = e
still_enough After s t f a e = e
still_enough (Shut why) s t f a e = e

pub passed : (w : Crew) (f : Step) (a : Meaning) → Passed w f a (passed_by f a)
passed w f a = record {
  may = record { members = refl; sectors = refl; off_stays = λ e. e; absent_stays = λ k e. e; current = λ k s. inr refl; durable = λ k s. inr (inr refl) };
  goes = record { on = λ e. e; enough = still_enough w.phase w.source w.target f a };
  current = λ k s here lt. refl;
  durable = λ k s here. refl;
}

either : (c : Bool) (x y : List ℕ) → (cond c x y ≡ y) ⊎ (cond c x y ≡ x)
either true x y = inr refl
either false x y = inl refl

pub torn : (f : Step) (reached : ℕ → ℕ → Bool) (a : Meaning) → Torn f a (cut_in f reached a)
torn f reached a = record {
  members = refl;
  sectors = refl;
  off_stays = λ e. refl;
  absent_stays = λ k e. e;
  current = λ k s. either (reached k s) (f a.current k s) (a.current k s);
  durable = λ k s. inl refl;
}

pub went_dark : (f : Step) (a : Meaning) → May nothing a (cut_in f (λ k s. false) a)
went_dark f a = record { members = refl; sectors = refl; off_stays = λ e. refl; absent_stays = λ k e. e; current = λ k s. inl refl; durable = λ k s. inl refl }

-- seen by all that are there
pub seen : (w : Crew) (a b : Meaning) (f : Meaning → List ℕ) → ((k : ℕ) → b.present k ≡ true → a.present k ≡ true) → enough w a ≡ true → SeenBy w a b f (f a)
seen w a b f left e = record { there = a.present; between = record { left = left; were = λ k here. here }; enough = e; is = refl }

-- a restart of a shelf on which all is durable changes nothing
pub restarted : (a : Meaning) → true ≡ a.on → ((k s : ℕ) → a.durable k s ≡ a.current k s) → Restarts a a true
restarted a on both = record {
  members = refl;
  sectors = refl;
  answer = on;
  present = λ k. refl;
  absent = λ k s e. record { durable = refl; current = refl };
  on = λ e k s here. record { both = both k s; one = inr refl };
  off = λ e k s here. inr (record { durable = refl; current = refl });
}
