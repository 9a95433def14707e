use Rattle.std.proofs.Common.{◌≡◌, ◌+◌, leb, length, ap, ◌∙◌, arith}
use Rattle.std.specs.List.{take_while}
use Rattle.certificate.specs.Certificates.{size, load, offered}
use Rattle.positions.specs.Positions.{without, insert, next_counts}
use Rattle.positions.proofs.Inserting.{removed, inserted}
use Rattle.positions.proofs.Reading.{load_told, offered_told, load_none, offered_none, load_there, offered_there}
use Rattle.positions.proofs.steps.next_position.Goals as goal

pub returns-in_err-class : goal.returns-in_err-class
returns-in_err-class g c = rw c.from_residual.ensures (λ h. offered_none (g.S.Store.meaning c.args.store.now) c.args.row c.in_err-class.ensures h.0)

pub returns-in_err-load : goal.returns-in_err-load
returns-in_err-load g c = rw c.from_residual-in_err-load.ensures (load_none (g.S.Store.meaning c.args.store.now) c.args.row c.args.bin c.in_err-load.ensures)

pub remove-requires : goal.remove-requires
remove-requires g c =
    let m = g.S.Store.meaning c.args.store.now in
    let p = load_told m c.args.row c.args.bin c.in_ok-load.load c.in_ok-load.ensures in
    (omega arith, load_there m (g.met.S.Store.lawful c.args.store.now) c.args.row p.0 c.read_loads-loads.result.items c.read_loads-loads.ensures c.args.bin p.1)

pub count_one-requires : goal.count_one-requires
count_one-requires g c =
    let m = g.S.Store.meaning c.args.store.now in
    let p = offered_told m c.args.row c.in_ok-class.class c.in_ok-class.ensures in
    let q = offered_there m (g.met.S.Store.lawful c.args.store.now) c.args.row p.0 c.read_counts-counts.result.items c.read_counts-counts.ensures c.in_ok-class.class p.1 in
    record { there = q.0; small = q.1 }

pub returns : goal.returns
returns g c =
    let m = g.S.Store.meaning c.args.store.now in
    let p = load_told m c.args.row c.args.bin c.in_ok-load.load c.in_ok-load.ensures in
    let q = offered_told m c.args.row c.in_ok-class.class c.in_ok-class.ensures in
    let grown : c.from.result + c.from-2.result ≡ load m c.args.row c.args.bin + size m (offered m c.args.row) = (λ t. (c.from.ensures ∙ p.2) t + (c.from-2.ensures ∙ (c.size_of.ensures ∙ ap (size m) q.1)) t) in
    let others = c.remove.ensures.items ∙ (removed c.args.bin c.read_loads-loads.result.items ∙ ap (without c.args.bin) c.read_loads-loads.ensures) in
    let raised = c.from.result + c.from-2.result in
    let place = c.place_of.ensures ∙ ap (λ xs. length (take_while (leb raised) xs)) c.deref.ensures.0 in (
      p.0,
      p.1,
      c.of.ensures ∙ (c.as_slice.ensures.value ∙ (c.insert.ensures.items ∙ (inserted raised c.remove.new.self.items c.place_of.result place ∙ (λ t. insert (grown t) (others t))))),
      c.of-2.ensures ∙ (c.as_slice-2.ensures.value ∙ (c.count_one.ensures ∙ (λ t. next_counts (c.read_counts-counts.ensures t) (q.1 t)))),
    )
