-- A loop's line stands behind the refusal's.
-- Assumes nothing.
use Rattle.std.proofs.Common.{◌≡◌, sym, ap, rules}
use Rattle.circuit.specs.declared.refusal.Ground.TheVariants.{Loop}
use Rattle.circuit.specs.Refusal.{ground_number}
use Rattle.circuit.proofs.Places.{ground_told}
use Rattle.text.proofs.Pieces.{puts_then, puts_as}
use Rattle.text.proofs.Answers.{loop_text, other_text}
use Rattle.text.proofs.writer.Writer.put_refused.Goals as goal
use Rattle.text.proofs.writer.Writer.put_refused.Goals.{then-eq, else-eq}

pub returns : goal.returns
returns c =
    elim c.if-eq.branch [
      | then-eq w ↦
          let is : c.args.refusal.reason ≡ Loop = search rules in
          puts_as
          (sym (loop_text c.args.refusal.reason c.args.refusal.place c.args.scratch.now (ap ground_number is)))
          (puts_then w.put_row.ensures.put (rw w.self-is at c.put_refusal.ensures))
      | else-eq w ↦
          let other : c.args.refusal.reason ≡ Loop → ⊥ = search rules in
          puts_as
          (sym (other_text c.args.refusal.reason c.args.refusal.place c.args.scratch.now
          (λ e. other (ground_told _ Loop e))))
          (rw w.self-is at c.put_refusal.ensures)
    ]
