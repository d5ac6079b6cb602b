use Rattle.std.proofs.Common.{rules}
use Rattle.volume.proofs.Founding.{opens_housed}
use Rattle.volume.proofs.Opening.{let_pass, took_up}
use Rattle.volume.proofs.Volume.take_up.Goals as goal

pub returns-clause-ends : goal.returns-clause-ends
returns-clause-ends g c = λ hand.
    let mean = g.S.Shelf.meaning in
    let place = g.L.Layout.geometry in
    let m = c.restarted_head.new.self in
    let h = c.in_ok-head.head in
    let judged = c.in_ok-judge_head.ensures in
    let phase = c.phase_under-self.result in
    let is = c.phase_under-self.ensures in
    took_up mean place g.L.Layout.named c.args.self.now m c.go_on.new.self h phase is c.restarted_head.ensures.rest hand
    (record { found = search rules; verdict = judged.verdict }) c.go_on.ensures.alike c.go_on.result
    (c.go_on.ensures.ends (let_pass mean place m h phase is judged.fits judged.enough judged.left))

pub returns-clause-housed : goal.returns-clause-housed
returns-clause-housed g c = λ hand.
    opens_housed g.S.Shelf.meaning g.L.Layout.geometry c.args.self.now c.restarted_head.new.self c.go_on.new.self c.in_ok-head.head c.phase_under-self.result c.phase_under-self.ensures
    c.restarted_head.ensures.rest hand c.in_ok-judge_head.ensures.fits c.go_on.ensures.alike c.go_on.result
