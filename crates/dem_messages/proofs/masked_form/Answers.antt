-- `dem_messages::masked_form` meets its contract: clientdata, an update and a sound are filled in and sent anew; of another message nothing
-- is put.
use mathlib.Core.List.{[]}
use Rattle.dem.specs.Scene.{context_of}
use Rattle.dem_scene.specs.Views.{scene_of}
use Rattle.dem_messages.proofs.Forms.{put_within, client_chosen, update_chosen, sound_chosen, none_chosen}
use Rattle.dem_messages.proofs.masked_form.Goals as goal

pub returns-in-Clientdata : goal.returns-in-Clientdata
returns-in-Clientdata c =
    let a = c.args in
    let t = scene_of a.scene.now in
    let k = c.fill_client in
    let put = c.put_client.ensures (context_of t) in record {
      fact = λ f n. client_chosen t f a.message a.form.now c.put_client.new.out c.put_client.result c.in-Clientdata.d k.result c.in-Clientdata.is k.ensures put;
      within = put_within a.form.now c.put_client.new.out c.put_client.result [] _ put;
    }

pub returns-in-Update : goal.returns-in-Update
returns-in-Update c =
    let a = c.args in
    let t = scene_of a.scene.now in
    let b = c.baseline_of-b in
    let k = c.fill_update-record in
    let put = c.put_update.ensures (context_of t) in record {
      fact = λ f n. update_chosen t f a.message a.form.now c.put_update.new.out c.put_update.result n c.in-Update.u b.result k.result c.in-Update.is b.ensures
          k.ensures put;
      within = put_within a.form.now c.put_update.new.out c.put_update.result [] _ put;
    }

pub returns-in-Sound : goal.returns-in-Sound
returns-in-Sound c =
    let a = c.args in
    let t = scene_of a.scene.now in
    let k = c.fill_sound in
    let put = c.put_sound.ensures (context_of t) in record {
      fact = λ f n. sound_chosen t f a.message a.form.now c.put_sound.new.out c.put_sound.result c.in-Sound.s k.result c.in-Sound.is k.ensures put;
      within = put_within a.form.now c.put_sound.new.out c.put_sound.result [] _ put;
    }

pub returns-in_default : goal.returns-in_default
returns-in_default c =
    let a = c.args in record {
      fact = λ f n. none_chosen (scene_of a.scene.now) f a.message c.in_default.not-Clientdata c.in_default.not-Update c.in_default.not-Sound;
      within = tt;
    }
