-- The invocation's record names the instance, the instance's record the component, and the table has its row.
use Rattle.std.proofs.Common.{refl, ap, ◌∙◌, arith}
use Rattle.reading.specs.Reader.{Row}
use Rattle.groups.proofs.Laws.{row_is}
use Rattle.reader.specs.Rows.{row_in}
use Rattle.control.proofs.Called.{call_lies, call_says, instance_lies, component_says, invoked_there, invoked_few}
use Rattle.control.proofs.Built.use_at.Goals as goal

pub call_at-call-requires : goal.call_at-call-requires
call_at-call-requires c = call_lies c.requires.0 c.requires.1 c.requires.2

pub overflow_add-self : goal.overflow_add-self
overflow_add-self c =
    let l = instance_lies c.requires.0 c.requires.1 c.requires.2 c.from.result (c.from.ensures ∙ c.call_at-call.ensures.0) in
    omega (arith, l.0)

pub component_at-component-requires : goal.component_at-component-requires
component_at-component-requires c = instance_lies c.requires.0 c.requires.1 c.requires.2 c.from.result (c.from.ensures ∙ c.call_at-call.ensures.0)

pub row-row-requires : goal.row-row-requires
row-row-requires c =
    let e = c.from-2.ensures ∙ c.component_at-component.ensures ∙ component_says c.requires.0 c.requires.1 c.requires.2 c.from.result (c.from.ensures ∙ c.call_at-call.ensures.0) in
    let l = invoked_few c.requires.0 c.requires.1 c.requires.2 in
    let r = c.requires.0.opened.room in
    omega arith

pub overflow_cast-result : goal.overflow_cast-result
overflow_cast-result c =
    let l = call_lies c.requires.0 c.requires.1 c.requires.2 in
    omega (arith, l.0)

pub returns : goal.returns
returns c =
    let e = c.from-2.ensures ∙ c.component_at-component.ensures ∙ component_says c.requires.0 c.requires.1 c.requires.2 c.from.result (c.from.ensures ∙ c.call_at-call.ensures.0) in
    let s = call_says c.requires.0 c.requires.1 c.requires.2 in
    let r = c.row-row.ensures ∙ ap (row_in c.args.self.judged.rows.now) e ∙ row_is c.requires.0.opened _ (invoked_there c.requires.0 c.requires.1 c.requires.2) in
    record {
      number_is = refl;
      record_is = c.requires.1.at;
      instance_is = c.call_at-call.ensures.0 ∙ s.0;
      offset_is = c.call_at-call.ensures.1 ∙ s.1;
      inputs_are = ap (λ (w : Row). w.inputs) r;
      outputs_are = ap (λ (w : Row). w.outputs) r;
      first_is = ap (λ (w : Row). w.first) r;
    }
