use Rattle.std.proofs.Common.{rules, refl, sym, subst}
use Rattle.head.specs.Heads.{Accepted}
use Rattle.head.proofs.Codecs.{accepted, logged_some, armed_some, written}
use Rattle.head.proofs.state.Head.encode.Goals as goal

pub returns-clause-bytes : goal.returns-clause-bytes
returns-clause-bytes c =
    let armed = armed_some c.args.self.now.armed in
    written c.args.self.now _ c.put_field.new.bytes c.put_field-2.new.bytes c.put_field-3.new.bytes
    c.put_field-4.new.bytes c.put_field-5.new.bytes c.put_field-6.new.bytes c.put_field-7.new.bytes
    c.put_field-8.new.bytes c.put_field.ensures.bytes c.put_field-2.ensures.bytes (search rules)
    c.put_field-4.ensures.bytes (search rules) (search rules) c.put_field-7.ensures.bytes
    (search (rules, logged_some))
    (rw (c.zeros-bytes.ensures, c.copy_from_slice.ensures.after, c.from.ensures, c.is_moving.ensures, c.from-2.ensures, c.is_some.ensures, armed) refl)

pub returns-clause-fits : goal.returns-clause-fits
returns-clause-fits c = search (rules, logged_some)

pub returns-clause-accepted : goal.returns-clause-accepted
returns-clause-accepted c =
    subst Accepted (sym (returns-clause-bytes c)) (accepted c.args.self.now (returns-clause-fits c))
