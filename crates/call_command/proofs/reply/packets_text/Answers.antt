use Rattle.std.proofs.Common.{rules, ◌≡◌, ◌≢◌, ◌≤◌, ◌<◌, length, get_or, sym, ap, ◌∙◌, [], ◌∷◌, ◌++◌, arith, string_bytes}
use Rattle.std.proofs.lemmas.List.{append_assoc, take_all}
use Rattle.call_command.proofs.Packets.{texts, texts_one, texts_more, texts_all}
use Rattle.call_command.specs.ReplyLine as model
use Rattle.call_command.proofs.reply.packets_text.Goals as goal

pub packets-init : goal.packets-init
packets-init c =
    let sent = c.args.ports.now.traffic.sent in
    let some : length sent ≢ 0 = search rules in
    record {
      some = grind arith;
      within = search rules;
      done = c.in_ok-text.ensures ∙ ap model.bytes_text c.packet.ensures ∙ texts_one sent some;
    }

pub packets-preserved : goal.packets-preserved
unfolding lib.Utf8.encode
packets-preserved c =
    let sent = c.args.ports.now.traffic.sent in
    let n = c.packets.n in
    let before = string_bytes c.packets.text in
    let below : n < length sent = search rules in
    let spelled : c.as_str.result.now ≡ model.bytes_text (get_or sent n []) =
    c.as_str.ensures.value ∙ c.in_ok-packet.ensures
    ∙ ap model.bytes_text c.packet-in-packets.ensures in
    record {
      some = grind arith;
      within = search rules;
      done = c.in_ok-push_str.ensures.bytes
          ∙ ap (λ text. text ++ c.as_str.result.now) c.in_ok-push.ensures.bytes
          ∙ append_assoc before (47 ∷ []) c.as_str.result.now
          ∙ ap (λ packet. before ++ (47 ∷ packet)) spelled
          ∙ ap (λ text. text ++ (47 ∷ model.bytes_text (get_or sent n []))) c.packets.invariant.done
          ∙ sym (texts_more sent n c.packets.invariant.some below);
    }

pub returns : goal.returns
returns c =
    let sent = c.args.ports.now.traffic.sent in
    let some : length sent ≢ 0 = search rules in
    let whole : length sent ≤ c.packets.n = search rules in
    c.packets.invariant.done ∙ ap texts (take_all c.packets.n sent whole) ∙ texts_all sent some
