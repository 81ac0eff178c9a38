use Rattle.histories.specs.Words.{subst, Broker, AreAsked}
use Rattle.histories.proofs.laws.all_that_is_asked_keeps_the_laws.Goals as goal

pub returns : goal.returns
returns c = λ b history asked.
    let identifiers = c.identifiers_are_given_out_once.ensures in
    let replies = c.kept_replies_are_the_replies.ensures in
    let times = c.tokens_end_in_time.ensures in
    record {
      gives_out_new = identifiers.since b history asked;
      no_identifier_twice = λ s is. identifiers.since_start s history
          (subst (λ (x : Broker). AreAsked x history) is asked);
      handed_out_once = c.responses_are_handed_out_once.ensures b history asked;
      hands_out_kept = replies.since b history asked;
      same_reply = λ s is. replies.since_start s history (subst (λ (x : Broker). AreAsked x history) is asked);
      responses_stay = c.kept_responses_stay.ensures b history asked;
      revocation = c.revocation_lasts.ensures b history asked;
      leases_revoked = c.leases_stay_revoked.ensures b history asked;
      tokens_made = c.tokens_are_made_as_allowed.ensures b history asked;
      lifetimes = times.since b history asked;
      lifetimes_since_start = λ s is. times.since_start s history (subst (λ (x : Broker). AreAsked x history) is asked);
      leases_asked = c.leases_are_of_their_callers.ensures b history asked;
      own = c.tokens_keep_their_own.ensures b history asked;
      versions = c.versions_follow.ensures b history asked;
      disabled = c.disabled_mounts_leave_nothing.ensures b history asked;
      settings = c.settings_follow.ensures b history asked;
      callers = c.only_allowed_requests_are_served.ensures b history asked;
      statuses = c.statuses_follow.ensures b history asked;
      allowed = c.allowed_requests_are_carried_out.ensures b history asked;
      refusals = c.refusals_tell_why.ensures b history asked;
      shown = c.look_ups_show_what_there_is.ensures b history asked;
    }
