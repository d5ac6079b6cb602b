use Rattle.std.proofs.Common.{refl, ap, arith, false, length}
use Rattle.std.proofs.lemmas.Bool.{both_ways}
use Rattle.model.proofs.Runs.{held_not_none, refusal_not_granted}
use Rattle.model.proofs.worked_runs.Goals as goal

pub returns : goal.returns
returns c = record {
  courses = record {
    stays = refl;
    met = refl;
    still_off = refl;
    opened = refl;
    not_opened = refl;
    in_use = refl;
    out_of_use = refl;
    keep_due = (refl, omega arith, omega arith);
    copy_due = (refl, omega arith, omega arith);
    settle_due = refl;
    finish_due = (refl, refl);
    copy_not_due = λ d. (let few = d.1 in omega (arith, few));
    settle_first = λ d. held_not_none d.0;
  };
  runs = record {
    run = record {
      linked = (refl, (refl, (refl, (refl, (refl, tt)))));
      starts = refl;
      calls = (
        record { count = λ t. refl; hands = tt; progress = λ t s. refl; fresh = tt },
        (
          record { count = λ t. refl; hands = (omega arith, refl); progress = λ t s. refl; fresh = tt },
          (
            record { count = λ t. absurd (both_ways false refl t); hands = tt; progress = λ t s. absurd s.next; fresh = tt },
            (
              record { count = λ t. refl; hands = tt; progress = λ t s. refl; fresh = tt },
              (
                record { count = λ t. refl; hands = (omega arith, refl); progress = λ t s. refl; fresh = tt },
                tt,
              ),
            ),
          ),
        ),
      );
    };
    run_back = record {
      linked = (refl, (refl, (refl, (refl, (refl, tt)))));
      starts = refl;
      calls = (
        record { count = λ t. refl; hands = tt; progress = λ t s. refl; fresh = tt },
        (
          record { count = λ t. refl; hands = (omega arith, refl); progress = λ t s. refl; fresh = tt },
          (
            record { count = λ t. absurd (both_ways false refl t); hands = tt; progress = λ t s. absurd s.next; fresh = tt },
            (
              record { count = λ t. refl; hands = tt; progress = λ t s. refl; fresh = tt },
              (
                record { count = λ t. refl; hands = (omega arith, refl); progress = λ t s. refl; fresh = tt },
                tt,
              ),
            ),
          ),
        ),
      );
    };
    moves = record {
      linked = (refl, (refl, (refl, (refl, (refl, tt)))));
      starts = refl;
      calls = (
        record { count = λ t. refl; hands = refl; progress = λ t s. refl; fresh = tt },
        (
          record { count = λ t. refl; hands = tt; progress = λ t s. refl; fresh = tt },
          (
            record { count = λ t. refl; hands = refl; progress = λ t s. refl; fresh = tt },
            (
              record { count = λ t. refl; hands = tt; progress = λ t s. refl; fresh = tt },
              (
                record {
                  count = λ t. refl;
                  hands = record { settled = refl; keeps = refl; all = refl; live = λ k rows. (let some = rows.all 0 (omega arith) in omega (arith, some)) };
                  progress = λ t s. refl;
                  fresh = refl;
                },
                tt,
              ),
            ),
          ),
        ),
      );
    };
    keep_met = record {
      linked = (refl, (refl, tt));
      starts = refl;
      calls = (
        record { count = λ t. refl; hands = refl; progress = λ t s. refl; fresh = tt },
        (
          record { count = λ t. absurd (both_ways false refl t); hands = tt; progress = λ t s. absurd (both_ways false refl s.on); fresh = tt },
          tt,
        ),
      );
    };
    keep_off = record {
      linked = (refl, (refl, tt));
      starts = refl;
      calls = (
        record { count = λ t. refl; hands = refl; progress = λ t s. refl; fresh = tt },
        (
          record { count = λ t. refl; hands = tt; progress = λ t s. absurd (both_ways false refl s.on); fresh = tt },
          tt,
        ),
      );
    };
    keep_spent = record {
      count = λ t. refl;
      hands = tt;
      progress = λ t s. (let few = s.number refl in absurd (omega (arith, few)));
      fresh = tt;
    };
  };
  breaches = record {
    create_strays = λ law. (let differs = law.starts in omega (arith, differs));
    read_other = λ law. (let differs = ap length law.calls.1.0.hands.1 in omega (arith, differs));
    read_nothing = λ law. law.calls.0.hands;
    write_forgotten = λ law. (let differs = law.calls.0.count refl in omega (arith, differs));
    other_layouts = λ law. (let differs = law.calls.0.count refl in omega (arith, differs));
    open_other = λ law. (let differs = law.calls.1.1.1.0.count refl in omega (arith, differs));
    keep_pleads = λ why law.
        refusal_not_granted why.fault (law.calls.1.0.progress refl (record {
          moving = refl;
          next = (refl, omega arith, omega arith);
          on = refl;
          source = refl;
          target = refl;
          number = λ n. omega arith;
        }));
    keep_claims = λ why law.
        refusal_not_granted why.fault (law.calls.1.0.progress refl (record {
          moving = refl;
          next = (refl, omega arith, omega arith);
          on = refl;
          source = refl;
          target = refl;
          number = λ n. omega arith;
        }));
    keep_spends = λ why law.
        refusal_not_granted why.fault (law.calls.1.0.progress refl (record {
          moving = refl;
          next = (refl, omega arith, omega arith);
          on = refl;
          source = refl;
          target = refl;
          number = λ n. omega arith;
        }));
    read_pleads = λ why law.
        refusal_not_granted why.fault (law.calls.1.1.0.progress refl (record {
          moving = refl;
          next = (refl, omega arith, omega arith);
          on = refl;
          source = refl;
          target = refl;
          number = λ n. omega arith;
        }));
    settle_pleads = λ why law.
        refusal_not_granted why.fault (law.calls.1.1.1.0.progress refl (record {
          moving = refl;
          next = refl;
          on = refl;
          source = refl;
          target = refl;
          number = λ n. omega arith;
        }));
    copy_pleads = λ number why law.
        refusal_not_granted why.fault (law.calls.1.1.0.progress refl (record {
          moving = refl;
          next = (refl, omega arith, omega arith);
          on = refl;
          source = refl;
          target = refl;
          number = λ n. absurd (both_ways false refl n);
        }));
    finish_pleads = λ why law.
        refusal_not_granted why.fault (law.calls.1.1.1.1.0.progress refl (record {
          moving = refl;
          next = (refl, refl);
          on = refl;
          source = refl;
          target = refl;
          number = λ n. omega arith;
        }));
    distance_other = λ law. (let differs = law.calls.0.hands in omega (arith, differs));
    grant_other = λ law. (let differs = law.calls.1.1.0.hands in omega (arith, differs));
    rows_made_up = λ law. (let differs = law.calls.1.1.1.1.0.hands.all in omega (arith, differs));
    kept_made_up = λ law. (let differs = law.calls.1.1.1.1.0.hands.keeps in omega (arith, differs));
    kept_too_many = λ law. (let many = law.calls.1.1.1.1.1.1.0.hands.live 2 (record {
      live = λ s below. omega (arith, below);
      all = λ s live. omega (arith, live);
    }) in omega (arith, many));
    not_fresh = λ law. (let differs = law.calls.1.1.1.1.0.fresh in omega (arith, differs));
    other_volume = λ law. (let differs = ap (λ m. m.volume.number) law.linked.0 in omega (arith, differs));
    other_shelf = λ law. (let differs = ap (λ m. length (m.shelf.current 0 4)) law.linked.0 in omega (arith, differs));
  };
}
