mod WaitingSteps
