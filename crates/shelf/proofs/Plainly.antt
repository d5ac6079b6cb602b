-- The operations of the plain shelf, by its run of bytes.
use Rattle.std.proofs.Common.{ℕ, ◌+◌, ◌*◌, ◌≤◌, List, length, sym, refl, ap, ◌∙◌, subst, inr, zero-add, arith}
use Rattle.std.proofs.lemmas.Bool.{lt-ltb}
use Rattle.shelf.specs.Meaning.{OthersStay, WriteIn, Writes, plain_meaning}
use Rattle.shelf.specs.Plains.{Plain, PlainWrites}
use Rattle.shelf.specs.Runs.{sector_put}
use Rattle.shelf.specs.Answers.{Answer}
use Rattle.shelf.proofs.Cells.{cell_inside, cell_one, image_other, image_put}

plain_others : (m z : ℕ) (run new : List ℕ) (k : ℕ) → OthersStay k (plain_meaning m z run) (plain_meaning m z new)
plain_others m z run new k = record { members = refl; sectors = refl; off_stays = λ e. e; absent_stays = λ e. e; others = λ j ne. refl }

pub plain_writes : (k s : ℕ) (bytes : List ℕ) (a b : Plain) (r : Answer) → a.members * a.sectors * 512 ≤ length a.run → PlainWrites k s bytes a b r
    → Writes k s bytes (plain_meaning a.members a.sectors a.run) (plain_meaning b.members b.sectors b.run) r
plain_writes k s bytes a b r whole h = record {
  inside = λ q. (let f = h.inside q in
      let in_image = cell_inside m z k s q.member_below q.sector_below in
      let fit : at * 512 + 512 ≤ length run = omega (arith, in_image) in
      subst (λ x. WriteIn k s bytes (plain_meaning m z run) (plain_meaning x.members x.sectors x.run) r) (sym f.0)
      (subst (WriteIn k s bytes (plain_meaning m z run) (plain_meaning m z (sector_put run at bytes))) (sym f.1) (record {
        others = plain_others m z run (sector_put run at bytes) k;
        persists = record { durable = λ j t. inr (inr refl) };
        elsewhere = λ j t apart. image_other m z run 0 at bytes j t (omega arith) fit q.long
            (λ a b same. apart (cell_one z j t k s b q.sector_below (sym (zero-add (j * z + t)) ∙ same)));
        tells = (refl, lt-ltb k m q.member_below);
        sets = image_put m z run 0 at bytes k s fit q.long q.member_below q.sector_below (zero-add at);
      })));
  outside = λ no. (let f = h.outside no in (f.1, ap (λ (x : Plain). plain_meaning x.members x.sectors x.run) f.0));
}
  where
    m : ℕ
    m = a.members

    z : ℕ
    z = a.sectors

    run : List ℕ
    run = a.run

    at : ℕ
    at = k * a.sectors + s
